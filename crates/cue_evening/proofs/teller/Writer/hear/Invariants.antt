use Rattle.std.proofs.Common.{◌≡◌, drop}
use Rattle.cue_evening.specs.Looks.{Meets, bits_after, events_after, hears, log_of}
use Rattle.cue_evening.proofs.teller.Writer.hear.Given as goal

-- what the replies that are left make of the log now is what all of them make of the log before
abbrev pub invariant-loop-reply : goal.invariant-loop-reply
invariant-loop-reply g l =
    Meets (hears l.state (drop l.reply-index l.replies) l.rest l.sent.left.now)
    (log_of (g.P.Paper.told l.self.page) l.self.course) (hears l.state l.replies l.batch l.fn.sent.left.now)
    (log_of (g.P.Paper.told l.fn.self.page) l.fn.self.course)
    × (events_after (drop l.reply-index l.replies) l.rest ≡ events_after l.replies l.batch)
    × (bits_after (drop l.reply-index l.replies) l.sent.left.now ≡ bits_after l.replies l.fn.sent.left.now)
    × (l.sent.orders ≡ l.fn.sent.orders)
