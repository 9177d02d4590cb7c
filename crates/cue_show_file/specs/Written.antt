-- A show file as a text, and the table that TOML reads from that text.
use Rattle.std.specs.Prelude.{◌≡◌, ℕ, pos, Bool, true, false, ◌&&◌, List, [], ◌∷◌, ◌++◌, map}
use Rattle.std.specs.Prelude.{if◌then◌else◌, length, codes, Option, None, Some, String, string_bytes}
use Rattle.std.specs.Prelude.{nat_le, nat_lt, IsTrue}
use Rattle.std.specs.Fmt.{decimal}
use Rattle.std.specs.List.{flat_map, list_all}
use Rattle.std.specs.declared.alloc.Global.{Global}
use Rattle.hex.specs.Hex.{encode_lower}
use Rattle.toml_writer.specs.Text.{string_text}
use Rattle.toml.specs.Data.{boolean, integer, string, array, table, Items, no_items, item, Members, member}
use Rattle.toml.specs.Data.{no_members}
use Rattle.toml.specs.Parse.{parse_document}
use Rattle.toml.specs.Text.{before_item, after_item, array_end}
use Rattle.cue_show.specs.declared.limits.TheConstants.{MAX_PORT}
use Rattle.cue_show.specs.declared.part.Part.{Part}
use Rattle.cue_show.specs.DeviceNumber.{is_device}
use Rattle.cue_show.specs.Show.{ShowLists, is_show}
use Rattle.cue_show_file.specs.declared.file.CueEntry.{CueEntry}
use Rattle.cue_show_file.specs.declared.file.DeviceEntry.{DeviceEntry}
use Rattle.cue_show_file.specs.declared.file.ShowFile.{ShowFile}
use Rattle.cue_show_file.specs.declared.marks.Color.{Color}
use Rattle.cue_show_file.specs.declared.marks.Flag.{Flag}
use Rattle.cue_show_file.specs.Marks.{color_word, flag_word}
use Rattle.cue_show_file.specs.Plain.{is_plain}

-- ---- the text

-- a line with a text
abbrev pub line_of : List ℕ → List ℕ → List ℕ
line_of key t = key ++ (codes " = " ++ (string_text t ++ codes "\n"))

-- the same, if there is one
abbrev pub text_line : List ℕ → Option (String Global) → List ℕ
text_line key None = []
text_line key (Some t) = line_of key (string_bytes t)

-- the line of a colour, and of a flag, if there is one
abbrev pub color_line : Option Color → List ℕ
color_line None = []
color_line (Some c) = line_of (codes "color") (color_word c)

abbrev pub flag_line : Option Flag → List ℕ
flag_line None = []
flag_line (Some f) = line_of (codes "flag") (flag_word f)

-- the header of a device, and what each has
abbrev pub device_head : DeviceEntry → List ℕ
device_head e =
    codes "\n[[device]]\nnumber = " ++ (decimal e.number ++ (codes "\nport = " ++ (decimal e.port ++ codes "\n")))

abbrev pub device_text : DeviceEntry → List ℕ
device_text e = device_head e ++ text_line (codes "name") e.name

-- what says that a part is optional
abbrev pub optional_text : Bool → List ℕ
optional_text true = codes ", optional = true"
optional_text false = []

-- the rest of a part after its device: of one that is plain text, and by the digits of its bytes
abbrev pub plain_rest : Bool → List ℕ → List ℕ
plain_rest optional t = optional_text optional ++ (codes ", text = " ++ (string_text t ++ codes " }"))

abbrev pub digits_rest : Bool → List ℕ → List ℕ
digits_rest optional digits = codes ", hex = " ++ (string_text digits ++ (optional_text optional ++ codes " }"))

-- plain text is written as such, other bytes by their digits
abbrev pub part_rest : Part → List ℕ
part_rest p = if is_plain p.bytes then plain_rest p.optional p.bytes else digits_rest p.optional (encode_lower p.bytes)

abbrev pub part_text : Part → List ℕ
part_text p = codes "{ device = " ++ (decimal p.device ++ part_rest p)

-- two parts or more have a line each
abbrev pub has_lines : List Part → Bool
has_lines ps = nat_lt 1 (length ps)

-- a part with what stands before it and after it
abbrev pub part_item : Bool → Part → List ℕ
part_item lines p = before_item lines true ++ (part_text p ++ after_item lines)

abbrev pub parts_text : List Part → List ℕ
parts_text ps = codes "[" ++ (flat_map (part_item (has_lines ps)) ps ++ array_end (has_lines ps))

-- the header of a cue, and its number
abbrev pub cue_head : CueEntry → List ℕ
cue_head e = codes "\n[[cue]]\nnumber = " ++ (string_text e.number ++ codes "\n")

abbrev pub parts_line : List Part → List ℕ
parts_line ps = codes "parts = " ++ (parts_text ps ++ codes "\n")

-- what people see of a cue
abbrev pub signs_text : CueEntry → List ℕ
signs_text e =
    text_line (codes "name") e.name ++ (text_line (codes "note") e.note ++ (color_line e.color ++ flag_line e.flag))

abbrev pub cue_text : CueEntry → List ℕ
cue_text e = cue_head e ++ (signs_text e ++ parts_line e.parts)

-- the port of the controller, if the file says it
abbrev pub port_text : Option ℕ → List ℕ
port_text None = []
port_text (Some port) = codes "port = " ++ (decimal port ++ codes "\n")

-- the port, then the devices, then the cues; no addresses on the network
abbrev pub file_text : ShowFile → List ℕ
file_text f = port_text f.port ++ (flat_map device_text f.devices.items ++ flat_map cue_text f.cues.items)

-- ---- the table

-- the table with a text more, if there is one
abbrev pub with_text : List ℕ → Option (String Global) → Members → Members
with_text key None ms = ms
with_text key (Some t) ms = member key (string (string_bytes t)) ms

abbrev pub device_members : DeviceEntry → Members
device_members e =
    with_text (codes "name") e.name
    (member (codes "number") (integer (pos e.number)) (member (codes "port") (integer (pos e.port)) no_members))

-- the table with a colour more, and with a flag more, if there is one
abbrev pub with_color : Option Color → Members → Members
with_color None ms = ms
with_color (Some c) ms = member (codes "color") (string (color_word c)) ms

abbrev pub with_flag : Option Flag → Members → Members
with_flag None ms = ms
with_flag (Some f) ms = member (codes "flag") (string (flag_word f)) ms

-- the table that says that a part is optional, if it is
abbrev pub with_optional : Bool → Members → Members
with_optional true ms = member (codes "optional") (boolean true) ms
with_optional false ms = ms

-- what a part has beside its device
abbrev pub rest_members : Part → Members
rest_members p =
    if is_plain p.bytes then with_optional p.optional (member (codes "text") (string p.bytes) no_members)
    else member (codes "hex") (string (encode_lower p.bytes)) (with_optional p.optional no_members)

abbrev pub part_members : Part → Members
part_members p = member (codes "device") (integer (pos p.device)) (rest_members p)

-- a list of tables
abbrev pub tables_of : List Members → Items
tables_of [] = no_items
tables_of (ms ∷ more) = item (table ms) (tables_of more)

abbrev pub cue_members : CueEntry → Members
cue_members e =
    with_color e.color
    (with_flag e.flag
    (with_text (codes "name") e.name
    (with_text (codes "note") e.note
    (member (codes "number") (string e.number)
    (member (codes "parts") (array (tables_of (map part_members e.parts))) no_members)))))

-- the table with a list of tables more, if the list has one
abbrev pub with_tables : List ℕ → List Members → Members → Members
with_tables key [] ms = ms
with_tables key (x ∷ xs) ms = member key (array (tables_of (x ∷ xs))) ms

abbrev pub with_port : Option ℕ → Members → Members
with_port None ms = ms
with_port (Some port) ms = member (codes "port") (integer (pos port)) ms

-- all that a file has, as a table: its keys are in the order of the alphabet
abbrev pub file_members : ShowFile → Members
file_members f =
    with_tables (codes "cue") (map cue_members f.cues.items)
    (with_tables (codes "device") (map device_members f.devices.items) (with_port f.port no_members))

-- ---- the file of a show

-- the entries of a device and of a cue, without names
abbrev pub bare_device : ℕ × ℕ → DeviceEntry
bare_device e = record { line = None; number = e.0; port = e.1; address = None; name = None }

abbrev pub bare_cue : List ℕ × List Part → CueEntry
bare_cue e =
    record {
      line = None;
      number = e.0;
      name = None;
      note = None;
      color = None;
      flag = None;
      companions = [];
      parts = e.1;
      forms = [];
    }

-- the file has all that the show has, in order, and nothing else
pub record IsFileOf (s : ShowLists) (f : ShowFile) : Type 0 where
  pub port : f.port ≡ None
  pub devices : f.devices.items ≡ map bare_device s.devices
  pub cues : f.cues.items ≡ map bare_cue s.cues

-- the show as a table
abbrev pub show_members : ShowLists → Members
show_members s =
    with_tables (codes "cue") (map cue_members (map bare_cue s.cues))
    (with_tables (codes "device") (map device_members (map bare_device s.devices)) no_members)

-- ---- reading it back

-- the numbers are ones that there are
abbrev pub is_port_number : Option ℕ → Bool
is_port_number None = true
is_port_number (Some port) = nat_le port MAX_PORT

abbrev pub has_numbers : ShowFile → Bool
has_numbers f =
    is_port_number f.port
    && (list_all (λ e. is_device e.number && nat_le e.port MAX_PORT) f.devices.items
    && list_all (λ e. list_all (λ p. is_device p.device) e.parts) f.cues.items)

-- By the grammar of TOML the text of a file is the table of that file: each device and each cue with its number, its
-- port, its names and its parts, in order, and nothing else.
abbrev pub WrittenIsRead : Type 0
WrittenIsRead = (f : ShowFile) → IsTrue (has_numbers f) → parse_document (file_text f) ≡ Some (file_members f)

-- So the text that is exported of a show is the table of this show.
abbrev pub ExportIsRead : Type 0
ExportIsRead =
    (s : ShowLists) (f : ShowFile) → IsTrue (is_show s) → IsFileOf s f
    → parse_document (file_text f) ≡ Some (show_members s)
