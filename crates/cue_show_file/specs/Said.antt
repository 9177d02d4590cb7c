-- What the table of a show file says: its devices with their ports, and its cues with their parts.
use Rattle.std.specs.Prelude.{◌≡◌, ℕ, Bool, true, false, ◌&&◌, if◌then◌else◌, List, [], ◌∷◌, codes, IsTrue}
use Rattle.std.specs.Prelude.{Option, None, Some, is_some, option_and_then}
use Rattle.std.specs.List.{list_any}
use Rattle.std.specs.Result.{result_ok}
use Rattle.hex.specs.Hex.{decode_of}
use Rattle.toml.specs.Data.{Data, array, boolean, string, table, Items, no_items, item, Members, no_members, member}
use Rattle.toml.specs.Data.{as_integer, as_str, get_member}
use Rattle.toml.specs.Parse.{parse_document}
use Rattle.cue_show.specs.declared.part.Part.{Part}
use Rattle.cue_show.specs.DeviceNumber.{device_of}
use Rattle.cue_show.specs.Number.{is_cue_number, same_text}
use Rattle.cue_show.specs.Show.{Cues, ShowLists, is_show}
use Rattle.cue_operator.specs.Arguments.{part_with, port_in}
use Rattle.cue_show_file.specs.declared.file.ShowFile.{ShowFile}
use Rattle.cue_show_file.specs.declared.marks.Color.{Color}
use Rattle.cue_show_file.specs.declared.marks.Flag.{Flag}
use Rattle.cue_show_file.specs.Marks.{color_of, flag_of}
use Rattle.cue_show_file.specs.Written.{IsFileOf, file_text}

-- ---- lists of tables

-- one more in front, if all are there
abbrev pub with_first : {A : Type 0} → Option A → Option (List A) → Option (List A)
with_first (Some x) (Some xs) = Some (x ∷ xs)
with_first (Some x) None = None
with_first None xs = None

-- what a table says; nothing if it is none
abbrev pub table_said : {A : Type 0} → (Members → Option A) → Data → Option A
table_said said (table ms) = said ms
table_said said _ = None

-- what each table says, in order
abbrev pub each_said : {A : Type 0} → (Members → Option A) → Items → Option (List A)
each_said said no_items = Some []
each_said said (item d ds) = with_first (table_said said d) (each_said said ds)

-- a list that has to be there
abbrev pub list_said : {A : Type 0} → (Members → Option A) → Option Data → Option (List A)
list_said said (Some (array ds)) = each_said said ds
list_said said _ = None

-- a list, which has nothing if it is not there
abbrev pub tables_at : Option Data → Option Items
tables_at None = Some no_items
tables_at (Some (array ds)) = Some ds
tables_at _ = None

abbrev pub list_or_none : {A : Type 0} → (Members → Option A) → Option Data → Option (List A)
list_or_none said d = option_and_then (λ ds. each_said said ds) (tables_at d)

-- ---- what else stands in a table

-- it is said only if this holds
abbrev pub only_if : {A : Type 0} → Bool → Option A → Option A
only_if true said = said
only_if false said = None

-- the key is one of these
abbrev pub is_among : List (List ℕ) → List ℕ → Bool
is_among keys key = list_any (λ k. same_text k key) keys

-- there is no key but these
abbrev pub has_only : List (List ℕ) → Members → Bool
has_only keys no_members = true
has_only keys (member key d ms) = is_among keys key && has_only keys ms

-- a text, or nothing
abbrev pub is_text_or_none : Option Data → Bool
is_text_or_none None = true
is_text_or_none (Some d) = is_some (as_str d)

-- ---- an entry

-- the device at a key
abbrev pub device_at : List ℕ → Members → Option ℕ
device_at key ms = option_and_then (λ z. device_of z) (option_and_then as_integer (get_member key ms))

-- the port at the key `port`
abbrev pub port_at : Members → Option ℕ
port_at ms = option_and_then (λ z. port_in z) (option_and_then as_integer (get_member (codes "port") ms))

-- a number and a port
abbrev pub entry_of : Option ℕ → Option ℕ → Option (ℕ × ℕ)
entry_of (Some number) (Some port) = Some (number, port)
entry_of (Some number) None = None
entry_of None port = None

-- the table has what a device may have, and a text for its name
abbrev pub is_of_device : Members → Bool
is_of_device ms =
    has_only (codes "number" ∷ codes "port" ∷ codes "address" ∷ codes "name" ∷ []) ms
    && is_text_or_none (get_member (codes "name") ms)

-- a device: its number and its port
abbrev pub device_said : Members → Option (ℕ × ℕ)
device_said ms = only_if (is_of_device ms) (entry_of (device_at (codes "number") ms) (port_at ms))

-- the bytes of a part: hexadecimal digits, or a text, or none
abbrev pub bytes_by : Option Data → Option Data → Option (List ℕ)
bytes_by None None = Some []
bytes_by (Some (string digits)) None = result_ok (decode_of digits)
bytes_by None (Some (string t)) = Some t
bytes_by _ _ = None

-- a part is required if nothing else is said
abbrev pub optional_by : Option Data → Option Bool
optional_by None = Some false
optional_by (Some (boolean b)) = Some b
optional_by _ = None

-- a part of these, if all are there
abbrev pub part_of : Option ℕ → Option Bool → Option (List ℕ) → Option Part
part_of device optional None = None
part_of device optional (Some bytes) = part_with device optional bytes

-- the table has what a part may have
abbrev pub is_of_part : Members → Bool
is_of_part ms = has_only (codes "device" ∷ codes "hex" ∷ codes "text" ∷ codes "optional" ∷ []) ms

-- its device, whether it is optional, and its bytes
abbrev pub part_in : Members → Option Part
part_in ms =
    part_of (device_at (codes "device") ms) (optional_by (get_member (codes "optional") ms))
    (bytes_by (get_member (codes "hex") ms) (get_member (codes "text") ms))

-- a part
abbrev pub part_said : Members → Option Part
part_said ms = only_if (is_of_part ms) (part_in ms)

-- the text, if it is a cue number
abbrev pub cue_number_of : List ℕ → Option (List ℕ)
cue_number_of t = if is_cue_number t then Some t else None

-- the cue number at the key `number`
abbrev pub cue_at : Members → Option (List ℕ)
cue_at ms = option_and_then (λ t. cue_number_of t) (option_and_then as_str (get_member (codes "number") ms))

-- a number and parts
abbrev pub cue_of : Option (List ℕ) → Option (List Part) → Option (List ℕ × List Part)
cue_of (Some number) (Some parts) = Some (number, parts)
cue_of (Some number) None = None
cue_of None parts = None

-- what a word says, if it says something
abbrev pub mark_said : {A : Type 0} → Option A → Option (Option A)
mark_said None = None
mark_said (Some x) = Some (Some x)

-- the colour of a cue, which may have none: a word that a colour has
abbrev pub color_by : Option Data → Option (Option Color)
color_by None = Some None
color_by (Some (string t)) = mark_said (color_of t)
color_by _ = None

-- the flag of a cue, which may have none: a word that a flag has
abbrev pub flag_by : Option Data → Option (Option Flag)
flag_by None = Some None
flag_by (Some (string t)) = mark_said (flag_of t)
flag_by _ = None

-- a value, if it is the text of a cue number
abbrev pub number_said : Data → Option (List ℕ)
number_said (string t) = cue_number_of t
number_said _ = None

-- each of these values, if all are
abbrev pub numbers_said : Items → Option (List (List ℕ))
numbers_said no_items = Some []
numbers_said (item d ds) = with_first (number_said d) (numbers_said ds)

-- the cues that are stood by together with a cue, which may have none: a list of cue numbers
abbrev pub companions_by : Option Data → Option (List (List ℕ))
companions_by None = Some []
companions_by (Some (array ds)) = numbers_said ds
companions_by _ = None

-- what people see of a cue: texts for its name and its note, a colour and a flag that there are
abbrev pub has_signs : Members → Bool
has_signs ms =
    (is_text_or_none (get_member (codes "name") ms) && is_text_or_none (get_member (codes "note") ms))
    && (is_some (color_by (get_member (codes "color") ms)) && is_some (flag_by (get_member (codes "flag") ms)))

-- the keys of a cue
abbrev pub cue_keys : List (List ℕ)
cue_keys =
    codes "number" ∷ codes "name" ∷ codes "note" ∷ codes "color" ∷ codes "flag" ∷ codes "with" ∷ codes "parts"
    ∷ []

-- the table has what a cue may have
unfoldable pub is_of_cue : Members → Bool
is_of_cue ms = has_only cue_keys ms && (has_signs ms && is_some (companions_by (get_member (codes "with") ms)))

-- a cue: its number and its parts
abbrev pub cue_said : Members → Option (List ℕ × List Part)
cue_said ms = only_if (is_of_cue ms) (cue_of (cue_at ms) (list_said part_said (get_member (codes "parts") ms)))

-- ---- the file

-- a port, or nothing
abbrev pub is_port_or_none : Option Data → Bool
is_port_or_none None = true
is_port_or_none (Some d) = is_some (option_and_then (λ z. port_in z) (as_integer d))

-- the table has what a file may have, and a port for its port
abbrev pub is_of_file : Members → Bool
is_of_file ms =
    has_only (codes "port" ∷ codes "listen" ∷ codes "device" ∷ codes "cue" ∷ codes "rehearse" ∷ []) ms
    && is_port_or_none (get_member (codes "port") ms)

-- devices and cues
abbrev pub both_of : Option (List (ℕ × ℕ)) → Option Cues → Option (List (ℕ × ℕ) × Cues)
both_of (Some devices) (Some cues) = Some (devices, cues)
both_of (Some devices) None = None
both_of None cues = None

-- a file: its devices and its cues
abbrev pub file_said : Members → Option (List (ℕ × ℕ) × Cues)
file_said ms =
    only_if (is_of_file ms) (both_of (list_or_none device_said (get_member (codes "device") ms))
    (list_or_none cue_said (get_member (codes "cue") ms)))

-- what a text says, if it is TOML
abbrev pub text_said : List ℕ → Option (List (ℕ × ℕ) × Cues)
text_said t = option_and_then file_said (parse_document t)

-- The text that is exported of a show says, by the grammar of TOML, exactly the devices and cues of this show.
abbrev pub ExportSaysTheShow : Type 0
ExportSaysTheShow =
    (s : ShowLists) (f : ShowFile) → IsTrue (is_show s) → IsFileOf s f
    → text_said (file_text f) ≡ Some (s.devices, s.cues)
