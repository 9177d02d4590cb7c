use Rattle.cue_exchange.specs.declared.attempt.Answer.TheVariants.{Excused}
use Rattle.cue_exchange.specs.Steps.{answers_as}
use Rattle.cue_exchange.proofs.LiveLemmas.{inside-answers_as}
use Rattle.cue_exchange.proofs.StepLemmas.{are_live-excused}
use Rattle.cue_exchange.proofs.HolderLemmas.{holders-changed}
use Rattle.cue_exchange.proofs.live.Live.excuse.Goals as goal

pub invariant_of-self : goal.invariant_of-self
invariant_of-self c = record {
  live = rw c.put_answer.ensures (are_live-excused c.args.seq c.args.device c.self.inside.attempts.items
      c.self.invariant.live (rw (← c.self.view_is) at c.requires));
  holders = rw c.put_answer.ensures (holders-changed c.self.inside.holders c.args.seq (answers_as c.args.device Excused)
      (inside-answers_as c.args.device Excused) c.self.inside.attempts.items c.self.invariant.holders);
}
