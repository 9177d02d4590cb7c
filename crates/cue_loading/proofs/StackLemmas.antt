-- Stacks of unequal length.
use Rattle.std.proofs.Common.{◌≡◌, ◌≤◌, false, [], ◌∷◌, length, arith, refl}
use Rattle.cue_show.specs.Show.{Cues}
use Rattle.cue_loading.specs.Loaded.{same_cues}

pub same_cues-longer : (es fs : Cues) → 1 ≤ length es → length fs ≡ 0 → false ≡ same_cues es fs
same_cues-longer [] fs some none = absurd (omega arith)
same_cues-longer (e ∷ es) [] some none = refl
same_cues-longer (e ∷ es) (f ∷ fs) some none = absurd (omega arith)
