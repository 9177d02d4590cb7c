-- What a controller with a show makes of the entries of a show file.
use Rattle.std.specs.Prelude.{Bool, if◌then◌else◌, List, [], ◌∷◌, Option, None, Some, option_and_then}
use Rattle.cue_show.specs.Show.{ShowLists, can_add_cue, can_add_device, with_cue, with_device}
use Rattle.cue_show_file.specs.declared.file.CueEntry.{CueEntry}
use Rattle.cue_show_file.specs.declared.file.DeviceEntry.{DeviceEntry}
use Rattle.cue_show_file.specs.declared.file.ShowFile.{ShowFile}

-- the show, if all is taken
abbrev pub if_all : Bool → ShowLists → Option ShowLists
if_all all s = if all then Some s else None

-- the show with one device more; none if it cannot be added
abbrev pub after_device : ShowLists → DeviceEntry → Option ShowLists
after_device s e = if can_add_device s e.number e.port then Some (with_device s e.number e.port) else None

-- the show with one cue more; none if it cannot be added
abbrev pub after_cue : ShowLists → CueEntry → Option ShowLists
after_cue s e = if can_add_cue s e.number e.parts then Some (with_cue s e.number e.parts) else None

-- each in turn, if each can be added
abbrev pub after_devices : ShowLists → List DeviceEntry → Option ShowLists
after_devices s [] = Some s
after_devices s (e ∷ es) = option_and_then (λ t. after_devices t es) (after_device s e)

abbrev pub after_cues : ShowLists → List CueEntry → Option ShowLists
after_cues s [] = Some s
after_cues s (e ∷ es) = option_and_then (λ t. after_cues t es) (after_cue s e)

-- all that a file has, the devices first
abbrev pub after_file : ShowLists → ShowFile → Option ShowLists
after_file s file = option_and_then (λ t. after_cues t file.cues.items) (after_devices s file.devices.items)
