-- In what a store is not what its show file says.
use Rattle.std.specs.Prelude.{ℕ, ◌==◌, Bool, true, false, ◌&&◌, not, List, Option, None, Some}
use Rattle.std.specs.List.{list_all}
use Rattle.cue_show.specs.declared.part.Part.{Part}
use Rattle.cue_show.specs.Number.{same_text}
use Rattle.cue_show.specs.Parts.{same_parts}
use Rattle.cue_show.specs.Show.{ShowLists, has_cue, has_device, parts_of, port_of}
use Rattle.cue_loading.specs.declared.comparing.Difference.{Difference}
use Rattle.cue_loading.specs.declared.comparing.Difference.TheVariants as difference

-- the store has a device, or a cue, that the file does not have
abbrev pub is_left_device : ShowLists → ShowLists → ℕ → Bool
is_left_device file s d = has_device s d && not (has_device file d)

abbrev pub is_left_cue : ShowLists → ShowLists → List ℕ → Bool
is_left_cue file s c = has_cue s c && not (has_cue file c)

-- both have the cue
abbrev pub is_in_both : ShowLists → ShowLists → List ℕ → Bool
is_in_both file s c = has_cue s c && has_cue file c

-- this one is there, and another one is wanted
abbrev pub is_other_port : Option ℕ → Option ℕ → ℕ → Bool
is_other_port (Some wanted) (Some there) port = there == port && not (wanted == port)
is_other_port (Some wanted) None port = false
is_other_port None there port = false

abbrev pub are_other_parts : Option (List Part) → Option (List Part) → Bool
are_other_parts (Some wanted) (Some there) = not (same_parts there wanted)
are_other_parts (Some wanted) None = false
are_other_parts None there = false

-- the device is at this port in the store, and at another one in the file
abbrev pub has_other_port : ShowLists → ShowLists → ℕ → ℕ → Bool
has_other_port file s d port = is_other_port (port_of file d) (port_of s d) port

-- the cue has other parts in the store than in the file
abbrev pub has_other_parts : ShowLists → ShowLists → List ℕ → Bool
has_other_parts file s c = are_other_parts (parts_of file c) (parts_of s c)

-- the two differ so
unfoldable pub is_so : ShowLists → ShowLists → Difference → Bool
is_so file s (difference.LeftDevice d) = is_left_device file s d
is_so file s (difference.LeftCue c) = is_left_cue file s c
is_so file s (difference.MissingDevice d) = is_left_device s file d
is_so file s (difference.MissingCue c) = is_left_cue s file c
is_so file s (difference.OtherPort d port) = has_other_port file s d port
is_so file s (difference.OtherParts c) = has_other_parts file s c
is_so file s (difference.OtherOrder c d) = is_in_both file s c && is_in_both file s d && not (same_text c d)
is_so file s difference.Otherwise = true

-- they differ in each of these
abbrev pub are_so : ShowLists → ShowLists → List Difference → Bool
are_so file s found = list_all (λ d. is_so file s d) found
