use Rattle.cue_core.specs.declared.event.Event.TheVariants as event
use Rattle.cue_core.specs.State.{ShowState}
use Rattle.cue_core.proofs.rules.RuleLemmas.{kept}
use Rattle.cue_core.proofs.state.State.ready.Goals as goal

pub invariant_of-self : goal.invariant_of-self
invariant_of-self c =
    let s : ShowState = record {
      show = c.self.inside.show;
      live = c.self.inside.live;
      last_seq =
          c.self.inside.last_seq;
      ended = c.self.inside.ended;
    } in
    rw c.ready.ensures (kept s c.args.self.now (event.Ready c.args.seq c.args.device) c.self.view_is c.self.invariant
    c.requires)
