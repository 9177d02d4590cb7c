-- What a change makes of the cues of a show file, as people see them.
use Rattle.std.specs.Prelude.{ℕ, Bool, true, false, not, ◌&&◌, if◌then◌else◌, List, [], ◌∷◌, find, map, Option, None}
use Rattle.std.specs.Prelude.{Some, option_map, string_bytes}
use Rattle.std.specs.List.{list_any}
use Rattle.std.specs.Option.{option_map_or}
use Rattle.cue_show.specs.Number.{same_text}
use Rattle.cue_show.specs.declared.part.Part.{Part}
use Rattle.cue_relay.specs.declared.route.Address.{Address}
use Rattle.cue_show_file.specs.declared.file.CueEntry.{CueEntry}
use Rattle.cue_show_file.specs.declared.file.DeviceEntry.{DeviceEntry}
use Rattle.cue_show_file.specs.declared.file.Form.{Form}
use Rattle.cue_show_file.specs.declared.marks.Color.{Color}
use Rattle.cue_show_file.specs.declared.marks.Flag.{Flag}
use Rattle.cue_edit.specs.declared.edit.Change.{Change}
use Rattle.cue_edit.specs.declared.edit.Change.TheVariants as change
use Rattle.cue_edit.specs.declared.edit.Edit.{Edit}
use Rattle.cue_edit.specs.declared.edit.EditFault.{EditFault}
use Rattle.cue_edit.specs.declared.edit.EditFault.TheVariants as fault
use Rattle.cue_edit.specs.declared.edit.Sign.{Sign}
use Rattle.cue_edit.specs.declared.edit.Sign.TheVariants as sign

-- a cue of a show file as people see it: all but the line at which it stands
pub record SeenCue : Type 0 where
  pub number : List ℕ
  pub name : Option (List ℕ)
  pub note : Option (List ℕ)
  pub color : Option Color
  pub flag : Option Flag
  pub companions : List (List ℕ)
  pub parts : List Part
  pub forms : List Form

abbrev pub seen : CueEntry → SeenCue
seen e =
    record {
      number = e.number;
      name = option_map string_bytes e.name;
      note = option_map string_bytes e.note;
      color = e.color;
      flag = e.flag;
      companions = e.companions;
      parts = e.parts;
      forms = e.forms;
    }

-- a device as people see it: all but its line
pub record SeenDevice : Type 0 where
  pub number : ℕ
  pub port : ℕ
  pub address : Option Address
  pub name : Option (List ℕ)

abbrev pub seen_device : DeviceEntry → SeenDevice
seen_device e =
    record { number = e.number; port = e.port; address = e.address; name = option_map string_bytes e.name }

-- ---- why a change cannot be

-- one of the cues has the number
abbrev pub has_cue : List CueEntry → List ℕ → Bool
has_cue cues n = list_any (λ (e : CueEntry). same_text e.number n) cues

-- a cue can come there: last, or before another one of these
abbrev pub is_place : List CueEntry → List ℕ → Option (List ℕ) → Bool
is_place cues c None = true
is_place cues c (Some before) = has_cue cues before && not (same_text before c)

-- what stands in the way of a change of a cue that is there
abbrev pub change_fault : List CueEntry → List ℕ → Change → Option EditFault
change_fault cues c (change.Sign s) = None
change_fault cues c (change.Before before) = if is_place cues c before then None else Some fault.NoPlace
change_fault cues c (change.Copy n) = if has_cue cues n then Some fault.Taken else None

abbrev pub fault_of : Edit → List CueEntry → Option EditFault
fault_of e cues = if has_cue cues e.cue then change_fault cues e.cue e.change else Some fault.NoCue

-- ---- what it makes of the cues

-- a cue with another sign
abbrev pub signed : Sign → SeenCue → SeenCue
signed (sign.Name t) c = record c { name = option_map string_bytes t }
signed (sign.Note t) c = record c { note = option_map string_bytes t }
signed (sign.Color x) c = record c { color = x }
signed (sign.Flag x) c = record c { flag = x }

-- the same if it has the number; any other cue stays
abbrev pub signed_at : List ℕ → Sign → SeenCue → SeenCue
signed_at n s c = if same_text c.number n then signed s c else c

-- the cues without those that have the number
abbrev pub without : List ℕ → List SeenCue → List SeenCue
without n [] = []
without n (c ∷ cs) = if same_text c.number n then without n cs else c ∷ without n cs

-- a cue has this number, if one is given
abbrev pub is_at : Option (List ℕ) → SeenCue → Bool
is_at None c = false
is_at (Some n) c = same_text c.number n

-- a cue put before the first that has the number; last, if no number is given
abbrev pub placed : Option (List ℕ) → SeenCue → List SeenCue → List SeenCue
placed n m [] = m ∷ []
placed n m (c ∷ cs) = if is_at n c then m ∷ (c ∷ cs) else c ∷ placed n m cs

-- the first cue that has the number, if there is one, carried there
abbrev pub carried : Option (List ℕ) → List ℕ → List SeenCue → List SeenCue
carried before n cs = option_map_or (λ m. placed before m (without n cs)) (find (λ c. same_text c.number n) cs) cs

-- a copy of a cue with another number
abbrev pub renumbered : List ℕ → SeenCue → SeenCue
renumbered n c = record c { number = n }

-- after the first cue that has the number comes its copy
abbrev pub copied : List ℕ → List ℕ → List SeenCue → List SeenCue
copied n new [] = []
copied n new (c ∷ cs) = if same_text c.number n then c ∷ (renumbered new c ∷ cs) else c ∷ copied n new cs

-- the cues after a change of the one with the number
abbrev pub changed : List ℕ → Change → List SeenCue → List SeenCue
changed n (change.Sign s) cs = map (signed_at n s) cs
changed n (change.Before before) cs = carried before n cs
changed n (change.Copy new) cs = copied n new cs

-- the cues of a file after an edit
abbrev pub cues_after : Edit → List CueEntry → List SeenCue
cues_after e cues = changed e.cue e.change (map seen cues)
