use Rattle.std.proofs.Common.{◌≡◌, ◌∷◌, [], None, true, subst}
use Rattle.cue_view.specs.declared.button.Button.TheVariants as button
use Rattle.cue_station.specs.Lighting.{footing_of, may_by}
use Rattle.cue_station.specs.Reading.{read_with, seen_since}
use Rattle.cue_station.proofs.laws.lit_unheard_is_refused.Goals as goal

-- src/laws.rt
pub returns : goal.returns
returns c = λ t c' q tick lit keeps.
    absurd (cc (subst
    (λ h. may_by (footing_of (t ∷ []) t.input.at t.input.wall) (λ n. seen_since n (t ∷ [])) (read_with h None)
    (button.Go c' q) ≡ true)
    tick (keeps.lit.lit (button.Go c' q) lit)))
