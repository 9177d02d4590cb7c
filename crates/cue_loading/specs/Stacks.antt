-- The stack that a loading is to make: that of the file, with what the file does not have in its place.
use Rattle.std.specs.Prelude.{ℕ, Bool, if◌then◌else◌, List, [], ◌∷◌, ◌++◌}
use Rattle.std.specs.List.{flat_map}
use Rattle.cue_show.specs.Number.{same_text}
use Rattle.cue_show.specs.Show.{Cues, ShowLists, has_cue}

-- the cues at the front that the file does not have
abbrev pub left_front : ShowLists → Cues → Cues
left_front file [] = []
left_front file (e ∷ es) = if has_cue file e.0 then [] else e ∷ left_front file es

-- the cues right after the cue c that the file does not have
abbrev pub left_after : ShowLists → List ℕ → Cues → Cues
left_after file c [] = []
left_after file c (e ∷ es) = if same_text e.0 c then left_front file es else left_after file c es

-- the cues of the file in its order; those that it does not have stay after the cue that they stand after in the store
abbrev pub merged : ShowLists → Cues → Cues
merged file stored = left_front file stored ++ flat_map (λ e. e ∷ left_after file e.0 stored) file.cues

-- all cues that are to be there: exactly those of the file, or those that it does not have as well
abbrev pub wanted_cues : Bool → ShowLists → Cues → Cues
wanted_cues is_exact file stored = if is_exact then file.cues else merged file stored
