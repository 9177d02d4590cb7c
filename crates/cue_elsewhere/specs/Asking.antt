-- When STANDBY asks once more.
use Rattle.std.specs.Prelude.{ℕ, Bool, false, ◌&&◌, ◌||◌, List, Option, None, Some}
use Rattle.std.specs.List.{list_any}
use Rattle.cue_show.specs.Parts.{uses}
use Rattle.cue_show.specs.Show.{ShowLists, parts_of}
use Rattle.cue_show.specs.declared.part.Part.{Part}
use Rattle.cue_whereabouts.specs.Differing.{is_elsewhere}
use Rattle.cue_whereabouts.specs.declared.differing.Difference.{Difference}

-- some of the parts are for the device d
abbrev pub uses_if : ℕ → Option (List Part) → Bool
uses_if d None = false
uses_if d (Some parts) = uses d parts

-- the cue has a part for the device d
abbrev pub is_used_in : ShowLists → ℕ → List ℕ → Bool
is_used_in show d c = uses_if d (parts_of show c)

-- one of these cues has, if the store was read
abbrev pub is_used : Option ShowLists → ℕ → List (List ℕ) → Bool
is_used None d cues = false
is_used (Some show) d cues = list_any (is_used_in show d) cues

-- it is known not to stand as supposed, and the cue that is next has a part for it, or one that is stood by with it
abbrev pub asks : Option ShowLists → List (List ℕ) → Difference → Bool
asks show companions x = is_elsewhere x && (x.is_next || is_used show x.device companions)
