-- What a show file calls devices and cues.
use Rattle.std.specs.Prelude.{ℕ, List, [], length, Option, Some, None, String, nat_eq, option_map, position, slice_get, string_bytes}
use Rattle.std.specs.Map.{keys_of, lookup}
use Rattle.std.specs.declared.alloc.Global.{Global}
use Rattle.cue_show.specs.Number.{same_text}
use Rattle.cue_report.specs.declared.names.Names.{Names}

-- a name that may be there; empty, if it is not
abbrev pub text_of : Option (String Global) → List ℕ
text_of None = []
text_of (Some name) = string_bytes name

-- what the file calls a cue
abbrev pub cue_name : Names → List ℕ → List ℕ
cue_name names cue = text_of (lookup (same_text cue) names.cues.entries)

-- what it calls a device
abbrev pub device_name : Names → ℕ → List ℕ
device_name names device = text_of (lookup (nat_eq device) names.devices.entries)

-- the cues of the file, in its order
abbrev pub cues : Names → List (List ℕ)
cues names = keys_of names.cues.entries

-- the place of a cue in the file, if it is there
abbrev pub place_of : Names → List ℕ → Option ℕ
place_of names cue = position (same_text cue) (cues names)

-- how many cues the file has
abbrev pub count : Names → ℕ
count names = length names.cues.entries

-- the cue at a place of the file
abbrev pub cue_at : Names → ℕ → Option (List ℕ)
cue_at names place = option_map (λ entry. entry.0) (slice_get names.cues.entries place)

-- what it calls the cue of an attempt; nothing, if the log does not say which that was
abbrev pub name_of : Names → Option (List ℕ) → List ℕ
name_of names None = []
name_of names (Some cue) = cue_name names cue
