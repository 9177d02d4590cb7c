use Rattle.std.proofs.Common.{ℕ, subst}
use Rattle.cue_snap.specs.Opened.{live_area_read}
use Rattle.cue_copies.specs.Earlier.{IsEarlier}
use Rattle.cue_copies.proofs.TellingLemmas.{tells_both}
use Rattle.cue_copies.proofs.telling.told_by.Goals as goal

pub returns-in-Ok : goal.returns-in-Ok
returns-in-Ok c =
    tells_both (live_area_read c.args.opened.now) c.args.first.now c.args.second.now c.requires c.in_ok-earlier.earlier
    (subst (λ (g : ℕ). IsEarlier g c.args.first.now c.args.second.now c.in_ok-earlier.earlier)
    c.generation.ensures.number c.in_ok-earlier.ensures) c.in-Ok.events.items c.in-Ok.ensures
