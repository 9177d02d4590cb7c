use Rattle.cue_core.specs.declared.event.Event.TheVariants as event
use Rattle.cue_core.specs.State.{ShowState}
use Rattle.cue_core.proofs.rules.RuleLemmas.{kept}
use Rattle.cue_core.proofs.state.State.failed.Goals as goal

pub invariant_of-self : goal.invariant_of-self
invariant_of-self c =
    let s : ShowState = record {
      show = c.self.inside.show;
      live = c.self.inside.live;
      last_seq =
          c.self.inside.last_seq;
      ended = c.self.inside.ended;
    } in
    rw (c.ended_as-self-inside.ensures, c.failed-outcome.ensures.outcome, c.failed-outcome.ensures.live)
    (kept s c.args.self.now (event.Failed c.args.seq c.args.device) c.self.view_is c.self.invariant c.requires)
