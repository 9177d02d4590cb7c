-- What an evening wants of a show file, beside what a controller takes.
use Rattle.std.specs.Prelude.{ℕ, ◌==◌, Bool, true, ◌&&◌, ◌||◌, not, List, length, Option, Some, None, is_none, unwrap_or}
use Rattle.std.specs.List.{list_all}
use Rattle.cue_show_file.specs.declared.file.CueEntry.{CueEntry}
use Rattle.cue_show_file.specs.declared.file.DeviceEntry.{DeviceEntry}
use Rattle.cue_show_file.specs.declared.file.ShowFile.{ShowFile}
use Rattle.cue_show_file.specs.declared.mistake.Finding.{Finding}
use Rattle.cue_show_file.specs.Together.{is_group}

-- the device does not have the port that the file says of the controller
abbrev pub is_apart : Option ℕ → DeviceEntry → Bool
is_apart None e = true
is_apart (Some port) e = not (port == e.port)

-- the file says where this machine is, or the device has no address
abbrev pub has_listen : Option ℕ → DeviceEntry → Bool
has_listen (Some listen) e = true
has_listen None e = is_none e.address

-- each cue can be stood by with its companions
abbrev pub are_together : List CueEntry → List CueEntry → Bool
are_together all entries = list_all (is_group all) entries

-- there is a device or a cue
abbrev pub has_something : ShowFile → Bool
has_something f = not (length f.devices.items == 0) || not (length f.cues.items == 0)

-- there is something, no device has the controller's port, one with an address knows where this machine is, and each
-- cue can be stood by with its companions
abbrev pub is_reviewed : ShowFile → Bool
is_reviewed f =
    has_something f
    && (list_all (λ e. is_apart f.port e) f.devices.items
    && (list_all (λ e. has_listen f.listen e) f.devices.items && are_together f.cues.items f.cues.items))

-- the line of a finding; 0 if it has none
abbrev pub line_of : Finding → ℕ
line_of f = unwrap_or f.line 0
