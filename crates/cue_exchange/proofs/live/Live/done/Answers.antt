use Rattle.cue_exchange.proofs.StepLemmas.{are_live-done}
use Rattle.cue_exchange.proofs.live.Live.done.Goals as goal

pub invariant_of-self : goal.invariant_of-self
invariant_of-self c = record {
  live = rw c.settle-outcome.ensures.live (are_live-done c.args.seq c.args.device c.self.inside.attempts.items
      c.self.invariant.live (rw (← c.self.view_is) at c.requires));
  holders = rw (← c.deref.ensures.value) c.holders_of-self-inside.ensures;
}
