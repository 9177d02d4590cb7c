-- What people see of a show file: names, notes, marks, and how the bytes of a part are written.
use Rattle.std.specs.Prelude.{ℕ, ◌==◌, List, [], ◌∷◌, Option, None, Some, codes, find, option_and_then, option_map}
use Rattle.std.specs.Prelude.{string_bytes}
use Rattle.toml.specs.Data.{Data, array, table, Items, no_items, item, get_member}
use Rattle.cue_show.specs.Number.{same_text}
use Rattle.cue_show_file.specs.declared.file.CueEntry.{CueEntry}
use Rattle.cue_show_file.specs.declared.file.DeviceEntry.{DeviceEntry}
use Rattle.cue_show_file.specs.declared.file.Form.{Form}
use Rattle.cue_show_file.specs.declared.file.Form.TheVariants as form
use Rattle.cue_show_file.specs.declared.file.ShowFile.{ShowFile}

-- the first entry of a device
abbrev pub device_of : ShowFile → ℕ → Option DeviceEntry
device_of f d = find (λ e. e.number == d) f.devices.items

-- its name, if it has one
abbrev pub name_of : ShowFile → ℕ → Option (List ℕ)
name_of f d = option_and_then (λ e. option_map string_bytes e.name) (device_of f d)

-- the first entry of a cue
abbrev pub entry_of : ShowFile → List ℕ → Option CueEntry
entry_of f c = find (λ e. same_text e.number c) f.cues.items

-- text where there is a text, and digits if not
abbrev pub form_by : Option Data → Form
form_by (Some d) = form.Text
form_by None = form.Digits

-- how a value has the bytes of a part
abbrev pub form_said : Data → Form
form_said (table ms) = form_by (get_member (codes "text") ms)
form_said _ = form.Digits

-- the same of each value, in order
abbrev pub forms_said : Items → List Form
forms_said no_items = []
forms_said (item d ds) = form_said d ∷ forms_said ds

abbrev pub forms_at : Option Data → List Form
forms_at (Some (array ds)) = forms_said ds
forms_at _ = []
