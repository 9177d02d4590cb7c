use Rattle.std.proofs.Common.{ap, subst, ◌∙◌}
use Rattle.cue_log_lines.specs.declared.listed.Cause.{Cause}
use Rattle.cue_evening.specs.Looks.{Does, log_of, takes, tells_reply}
use Rattle.cue_evening.specs.Replies.{cause_in}
use Rattle.cue_evening.proofs.LogLemmas.{does_then}
use Rattle.cue_evening.proofs.teller.Writer.hear_reply.Goals as goal

pub returns : goal.returns
returns g c =
    let tells = tells_reply c.args.state.now c.args.reply.now c.args.is_sent c.args.made.now c.args.later.now in
    subst (λ (why : Cause). Does (λ log. takes why c.args.made.now (tells log)) (log_of (g.P.Paper.told c.args.self.now.page) c.args.self.now.course)
    (log_of (g.P.Paper.told c.take_events.new.self.page) c.take_events.new.self.course)) (c.cause_in.ensures ∙ ap cause_in c.as_slice.ensures.value)
    (does_then tells (takes c.cause_in.result c.args.made.now) _ _ _ c.tell_sent.ensures c.take_events.ensures)
