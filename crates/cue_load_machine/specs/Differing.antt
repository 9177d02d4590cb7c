-- What a load makes of the differences between a store and its show file.
use Rattle.std.specs.Prelude.{Bool, true, false, ◌&&◌, ◌||◌, not, if◌then◌else◌, List, [], ◌∷◌}
use Rattle.cue_show.specs.Show.{ShowLists}
use Rattle.cue_loading.specs.declared.comparing.Difference.{Difference}
use Rattle.cue_loading.specs.declared.comparing.Difference.TheVariants as difference
use Rattle.cue_loading.specs.declared.manner.Manner.{Manner}
use Rattle.cue_loading.specs.Steps.{goes_on}
use Rattle.cue_load_machine.specs.Plans.{is_exact}

-- the store has it, and the file does not
abbrev pub is_left : Difference → Bool
is_left (difference.LeftDevice d) = true
is_left (difference.LeftCue c) = true
is_left _ = false

-- the file has it, and the store does not
abbrev pub is_missing : Difference → Bool
is_missing (difference.MissingDevice d) = true
is_missing (difference.MissingCue c) = true
is_missing _ = false

-- the controller refuses to add it, since it is there, and differs
abbrev pub is_refused : Difference → Bool
is_refused (difference.OtherPort d port) = true
is_refused (difference.OtherParts c) = true
is_refused _ = false

-- what is left goes by a load that is exact; what is missing is added in any case; the rest is replaced, but by a load
-- that only adds
abbrev pub changes : Manner → Difference → Bool
changes m d = if is_left d then is_exact m else is_missing d || not (goes_on m false)

abbrev pub changes_some : Manner → List Difference → Bool
changes_some m [] = false
changes_some m (d ∷ ds) = changes m d || changes_some m ds

abbrev pub has_some : {A : Type 0} → List A → Bool
has_some [] = false
has_some (x ∷ xs) = true

-- it changes something of a store that is not empty
abbrev pub changes_stored : Manner → ShowLists → List Difference → Bool
changes_stored m stored found = (has_some stored.devices || has_some stored.cues) && changes_some m found
