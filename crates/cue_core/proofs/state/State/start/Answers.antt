use Rattle.cue_core.specs.declared.event.Event.TheVariants as event
use Rattle.cue_core.specs.State.{ShowState}
use Rattle.cue_core.proofs.rules.RuleLemmas.{kept}
use Rattle.cue_core.proofs.state.State.start.Goals as goal

pub invariant_of-self-2 : goal.invariant_of-self-2
invariant_of-self-2 c =
    let s : ShowState = record {
      show = c.self.inside.show;
      live = c.self.inside.live;
      last_seq =
          c.self.inside.last_seq;
      ended = c.self.inside.ended;
    } in
    rw (c.in_ok-start.ensures.ok, c.cue_parts-parts.ensures)
    (kept s c.args.self.now (event.Start c.args.seq c.args.cue c.args.deadline) c.self.view_is c.self.invariant
    c.requires)
