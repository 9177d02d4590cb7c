-- What people call the numbers of a view: what the show file has, and nothing if it has nothing.
use Rattle.std.specs.Prelude.{ℕ, List, [], String, string_bytes, Option, None, Some, find, nat_eq}
use Rattle.std.specs.declared.alloc.Global.{Global}
use Rattle.cue_show.specs.Number.{same_text}
use Rattle.cue_show_file.specs.declared.file.CueEntry.{CueEntry}
use Rattle.cue_show_file.specs.declared.file.DeviceEntry.{DeviceEntry}
use Rattle.cue_view.specs.declared.view.Next.{Next}
use Rattle.cue_view.specs.declared.view.Next.TheVariants as next
use Rattle.cue_board.specs.declared.names.Names.{Names}

-- a text that may be missing
abbrev pub text_of : Option (String Global) → List ℕ
text_of None = []
text_of (Some text) = string_bytes text

-- the first entry of the cue
abbrev pub cue_in : List ℕ → List CueEntry → Option CueEntry
cue_in cue entries = find (λ e. same_text e.number cue) entries

abbrev pub cue_entry : Names → List ℕ → Option CueEntry
cue_entry names cue = elim names.file [ None ↦ None | Some file ↦ cue_in cue file.now.cues.items ]

-- its name
abbrev pub name_of : Option CueEntry → List ℕ
name_of None = []
name_of (Some e) = text_of e.name

-- its note
abbrev pub note_of : Option CueEntry → List ℕ
note_of None = []
note_of (Some e) = text_of e.note

abbrev pub cue_name : Names → List ℕ → List ℕ
cue_name names cue = name_of (cue_entry names cue)

abbrev pub cue_note : Names → List ℕ → List ℕ
cue_note names cue = note_of (cue_entry names cue)

-- the same of the cue that is next, if there is one
abbrev pub next_name : Names → Next → List ℕ
next_name names (next.Cue cue) = cue_name names cue
next_name names _ = []

abbrev pub next_note : Names → Next → List ℕ
next_note names (next.Cue cue) = cue_note names cue
next_note names _ = []

-- the first entry of the device
abbrev pub device_in : ℕ → List DeviceEntry → Option DeviceEntry
device_in d entries = find (λ e. nat_eq e.number d) entries

abbrev pub device_entry : Names → ℕ → Option DeviceEntry
device_entry names d = elim names.file [ None ↦ None | Some file ↦ device_in d file.now.devices.items ]

abbrev pub called : Option DeviceEntry → List ℕ
called None = []
called (Some e) = text_of e.name

abbrev pub device_name : Names → ℕ → List ℕ
device_name names d = called (device_entry names d)
