use Rattle.std.proofs.Common.{ap}
use Rattle.cue_core.specs.declared.event.Event.TheVariants as event
use Rattle.cue_core.specs.State.{ShowState, with_show}
use Rattle.cue_core.proofs.rules.RuleLemmas.{kept_as}
use Rattle.cue_core.proofs.state.State.add_device.Goals as goal

pub invariant_of-self-2 : goal.invariant_of-self-2
invariant_of-self-2 c =
    let s : ShowState = record {
      show = c.self.inside.show;
      live = c.self.inside.live;
      last_seq =
          c.self.inside.last_seq;
      ended = c.self.inside.ended;
    } in
    kept_as s c.args.self.now (with_show s c.add_device.new.self) (event.Device c.args.device c.args.port)
    (ap (λ x. with_show s x) c.in_ok-add_device.ensures.ok) c.self.view_is c.self.invariant c.requires
