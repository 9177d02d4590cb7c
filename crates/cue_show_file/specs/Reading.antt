-- What was read of a show file so far, and whether anything was wrong with it.
use Rattle.std.specs.Prelude.{◌≡◌, ℕ, ◌==◌, Bool, true, ◌&&◌, List, [], ◌∷◌, ◌++◌, map, length, Option, None, Some}
use Rattle.std.specs.Prelude.{IsTrue, codes, is_none, option_map}
use Rattle.toml.specs.Data.{Data, table, Items, no_items, item, Members, get_member}
use Rattle.toml.specs.Parse.{parse_document}
use Rattle.cue_show.specs.Show.{Cues, ShowLists, empty_show, is_show}
use Rattle.cue_show_file.specs.declared.file.CueEntry.{CueEntry}
use Rattle.cue_show_file.specs.declared.file.DeviceEntry.{DeviceEntry}
use Rattle.cue_show_file.specs.declared.file.ShowFile.{ShowFile}
use Rattle.cue_show_file.specs.declared.mistake.Finding.{Finding}
use Rattle.cue_show_file.specs.declared.mistake.Findings.{Findings}
use Rattle.cue_show_file.specs.Accepted.{after_file}
use Rattle.cue_show_file.specs.Said.{only_if, tables_at}
use Rattle.cue_show_file.specs.Written.{IsFileOf, file_text}

-- nothing was found
abbrev pub is_clean : Findings → Bool
is_clean f = length f.found.items == 0

-- what was read, if nothing is wrong so far
abbrev pub if_clean : {A : Type 0} → Findings → Option A → Option A
if_clean f said = only_if (is_clean f) said

-- these, and then more of them
abbrev pub then_more : {A : Type 0} → List A → Option (List A) → Option (List A)
then_more xs said = option_map (λ ys. xs ++ ys) said

-- these, and then one more
abbrev pub then_one : {A : Type 0} → List A → Option A → Option (List A)
then_one xs said = option_map (λ x. xs ++ x ∷ []) said

-- the devices with their ports, and the cues with their parts, of entries
abbrev pub devices_of : List DeviceEntry → List (ℕ × ℕ)
devices_of entries = map (λ e. (e.number, e.port)) entries

abbrev pub cues_of : List CueEntry → Cues
cues_of entries = map (λ e. (e.number, e.parts)) entries

-- the devices and the cues of a file
abbrev pub said_of : ShowFile → List (ℕ × ℕ) × Cues
said_of f = (devices_of f.devices.items, cues_of f.cues.items)

-- the file says this, if there is no finding
abbrev pub said_without : List Finding → ShowFile → Option (List (ℕ × ℕ) × Cues)
said_without [] f = Some (said_of f)
said_without (x ∷ xs) f = None

-- The show that the check finds of a file has exactly the devices and the cues of that file, in order.
abbrev pub CheckedIsSaid : Type 0
CheckedIsSaid = (f : ShowFile) (s : ShowLists) → after_file empty_show f ≡ Some s → said_of f ≡ (s.devices, s.cues)

-- ---- places on the stage's network

-- a table with no address
abbrev pub is_without_place : Data → Bool
is_without_place (table ms) = is_none (get_member (codes "address") ms)
is_without_place _ = true

-- none of these has an address
abbrev pub no_places_in : Items → Bool
no_places_in no_items = true
no_places_in (item d ds) = is_without_place d && no_places_in ds

-- what is there passes the test
abbrev pub all_in_option : {A : Type 0} → (A → Bool) → Option A → Bool
all_in_option test None = true
all_in_option test (Some x) = test x

abbrev pub no_places_at : Option Data → Bool
no_places_at d = all_in_option (λ ds. no_places_in ds) (tables_at d)

-- neither a device nor this machine has an address
abbrev pub no_place_in : Members → Bool
no_place_in ms = is_none (get_member (codes "listen") ms) && no_places_at (get_member (codes "device") ms)

-- a text, if it is TOML, that names no place on the network
abbrev pub names_no_place : List ℕ → Bool
names_no_place t = all_in_option (λ ms. no_place_in ms) (parse_document t)

-- The text that is exported of a show names no place on the network.
abbrev pub ExportNamesNoPlace : Type 0
ExportNamesNoPlace =
    (s : ShowLists) (f : ShowFile) → IsTrue (is_show s) → IsFileOf s f → IsTrue (names_no_place (file_text f))
