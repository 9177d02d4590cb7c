-- What became of the devices, or of the cues, of a show file.
use Rattle.std.specs.Prelude.{ℕ, ◌+◌, ◌-◌, ◌^◌, min, ◌==◌, Bool, if◌then◌else◌, List, [], ◌∷◌}
use Rattle.std.specs.Prelude.{Option, Some, None}
use Rattle.cue_show.specs.declared.part.Part.{Part}
use Rattle.cue_show.specs.Parts.{same_parts}
use Rattle.cue_show.specs.Show.{ShowLists, has_cue, has_device, parts_of, port_of}
use Rattle.cue_desk.specs.declared.answered.Answered.{Answered}
use Rattle.cue_desk.specs.declared.answered.Answered.TheVariants as answered
use Rattle.cue_load_machine.specs.declared.becoming.Became.{Became}
use Rattle.cue_load_machine.specs.declared.becoming.Became.TheVariants as became
use Rattle.cue_load_machine.specs.declared.becoming.Counts.{Counts}

-- what became of one that was to be added
abbrev pub became_of : Answered → Became
became_of answered.Made = became.New
became_of answered.Known = became.Known
became_of (answered.Refused code) = became.Refused code

-- one more of a number, up to the largest
abbrev pub one_more : ℕ → ℕ
one_more n = min (n + 1) (2 ^ 64 - 1)

-- one more is counted where it belongs, and nothing else changes
abbrev pub counted : Became → Counts → Counts
counted became.New c = record c { added = one_more c.added }
counted became.Known c = record c { known = one_more c.known }
counted became.Replaced c = record c { replaced = one_more c.replaced }
counted became.Removed c = record c { removed = one_more c.removed }
counted (became.Refused code) c = record c { refused = one_more c.refused }

-- each of these is counted, one after the other
abbrev pub with_answers : Counts → List Answered → Counts
with_answers c [] = c
with_answers c (a ∷ more) = with_answers (counted (became_of a) c) more

-- ---- plans

-- one of the file, where the store has this of it
abbrev pub port_becomes : Option ℕ → ℕ → Became
port_becomes None port = became.New
port_becomes (Some other) port = if other == port then became.Known else became.Replaced

abbrev pub device_becomes : ShowLists → ℕ → ℕ → Became
device_becomes stored d port = port_becomes (port_of stored d) port

abbrev pub parts_become : Option (List Part) → List Part → Became
parts_become None parts = became.New
parts_become (Some others) parts = if same_parts others parts then became.Known else became.Replaced

abbrev pub cue_becomes : ShowLists → List ℕ → List Part → Became
cue_becomes stored c parts = parts_become (parts_of stored c) parts

-- what becomes of each of these of the file is counted
abbrev pub with_devices : ShowLists → List (ℕ × ℕ) → Counts → Counts
with_devices stored [] c = c
with_devices stored (e ∷ es) c = with_devices stored es (counted (device_becomes stored e.0 e.1) c)

abbrev pub with_cues : ShowLists → List (List ℕ × List Part) → Counts → Counts
with_cues stored [] c = c
with_cues stored (e ∷ es) c = with_cues stored es (counted (cue_becomes stored e.0 e.1) c)

-- each of these of the store is removed that the file does not have
abbrev pub with_left : Bool → Counts → Counts
with_left there c = if there then c else counted became.Removed c

abbrev pub with_left_devices : ShowLists → List (ℕ × ℕ) → Counts → Counts
with_left_devices file [] c = c
with_left_devices file (e ∷ es) c = with_left_devices file es (with_left (has_device file e.0) c)

abbrev pub with_left_cues : ShowLists → List (List ℕ × List Part) → Counts → Counts
with_left_cues file [] c = c
with_left_cues file (e ∷ es) c = with_left_cues file es (with_left (has_cue file e.0) c)

-- none of each
abbrev pub nothing : Counts
nothing = record { added = 0; known = 0; replaced = 0; removed = 0; refused = 0 }

-- all of the file, and, if the store is to be exactly the file, all that goes
abbrev pub devices_of : Bool → ShowLists → ShowLists → Counts
devices_of exact file stored =
    let of_file : Counts = with_devices stored file.devices nothing in
    if exact then with_left_devices file stored.devices of_file else of_file

abbrev pub cues_of : Bool → ShowLists → ShowLists → Counts
cues_of exact file stored =
    let of_file : Counts = with_cues stored file.cues nothing in
    if exact then with_left_cues file stored.cues of_file else of_file
