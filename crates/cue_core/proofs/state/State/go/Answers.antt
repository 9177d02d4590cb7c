use Rattle.std.proofs.Common.{ap, ◌∙◌}
use Rattle.cue_show.specs.Show.{with_place}
use Rattle.cue_core.specs.declared.event.Event.TheVariants as event
use Rattle.cue_core.specs.State.{ShowState}
use Rattle.cue_core.specs.Steps.{place_after}
use Rattle.cue_core.proofs.rules.RuleLemmas.{kept_as, is_place_of-after}
use Rattle.cue_core.proofs.state.State.go.Goals as goal

pub set_place-requires : goal.set_place-requires
set_place-requires c = rw c.place_after-place.ensures
    (is_place_of-after c.self.inside.show c.self.inside.live c.args.seq)

pub invariant_of-self : goal.invariant_of-self
invariant_of-self c =
    let s : ShowState = record {
      show = c.self.inside.show;
      live = c.self.inside.live;
      last_seq =
          c.self.inside.last_seq;
      ended = c.self.inside.ended;
    } in
    kept_as s c.args.self.now
    (record { show = c.set_place.new.self; live = c.go.new.self; last_seq = s.last_seq; ended = s.ended })
    (event.Go c.args.seq)
    (ap (λ x. record s { show = x; live = c.go.new.self }) (c.set_place.ensures
    ∙ ap (λ p. with_place s.show p) c.place_after-place.ensures)
    ∙ ap (λ x. record s { show = with_place s.show (place_after s.show s.live c.args.seq); live = x }) c.go.ensures)
    c.self.view_is c.self.invariant c.requires
