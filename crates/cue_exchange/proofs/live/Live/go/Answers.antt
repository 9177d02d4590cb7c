use Rattle.cue_exchange.specs.declared.attempt.Stage.TheVariants.{Decided}
use Rattle.cue_exchange.specs.Steps.{moves_to}
use Rattle.cue_exchange.proofs.LiveLemmas.{inside-moves_to}
use Rattle.cue_exchange.proofs.StepLemmas.{are_live-go}
use Rattle.cue_exchange.proofs.HolderLemmas.{holders-changed}
use Rattle.cue_exchange.proofs.live.Live.go.Goals as goal

pub invariant_of-self : goal.invariant_of-self
invariant_of-self c = record {
  live = rw c.move_to.ensures (are_live-go c.args.seq c.self.inside.attempts.items c.self.invariant.live
      (rw (← c.self.view_is) at c.requires));
  holders = rw c.move_to.ensures (holders-changed c.self.inside.holders c.args.seq (moves_to Decided)
      (inside-moves_to Decided) c.self.inside.attempts.items c.self.invariant.holders);
}
