use Rattle.cue_exchange.proofs.StepLemmas.{are_live-started}
use Rattle.cue_exchange.proofs.live.Live.start.Goals as goal

pub invariant_of-self-2 : goal.invariant_of-self-2
invariant_of-self-2 c = record {
  live = rw (c.in_ok-push.ensures.items, c.in_ok-answers.ensures)
      (are_live-started c.args.seq c.args.cue c.args.deadline c.args.parts.now c.self.inside.attempts.items
      c.self.invariant.live (rw (← c.self.view_is) at c.requires));
  holders = rw (← c.deref.ensures.value) c.holders_of-self-inside.ensures;
}
