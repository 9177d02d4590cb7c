use Rattle.std.proofs.Common.{◌≡◌, drop}
use Rattle.cue_evening.specs.Sent.{count_of}
use Rattle.cue_evening.proofs.sent.count_of.Given as goal

abbrev pub invariant-loop-reply : goal.invariant-loop-reply
invariant-loop-reply l = count_of l.count (drop l.reply-index l.replies) ≡ count_of l.orders l.replies
