-- What comes of an edit.
use Rattle.std.specs.Prelude.{◌≡◌, Bool, true, false, map, Some, Result, Ok, Err, ⊤, string_bytes, List, []}
use Rattle.cue_show_file.specs.declared.file.ShowFile.{ShowFile}
use Rattle.cue_show_file.specs.Reading.{said_of}
use Rattle.cue_show_file.specs.Said.{text_said}
use Rattle.cue_edit.specs.Editing.{cues_after, seen, seen_device}
use Rattle.cue_edit.specs.declared.edit.Edit.{Edit}
use Rattle.cue_edit.specs.declared.edit.EditFault.{EditFault}
use Rattle.cue_edit.specs.declared.edit.EditFault.TheVariants.{NoCue, NoPlace, Taken, Mistakes, Form}
use Rattle.cue_edit.specs.declared.editing.Edited.{Edited}

-- The new text says the new file, and that has the cues of the old one after the edit; all beside them is as it was.
pub record IsEdited (edit : Edit) (old : ShowFile) (new : Edited) : Type 0 where
  pub said : text_said (string_bytes new.text) ≡ Some (said_of new.file)
  pub cues : map seen new.file.cues.items ≡ cues_after edit old.cues.items
  pub devices : map seen_device new.file.devices.items ≡ map seen_device old.devices.items
  pub port : new.file.port ≡ old.port
  pub listen : new.file.listen ≡ old.listen

-- this holds of what was edited, if it was
abbrev pub IfEdited : {E : Type 0} → Result (Result Edited EditFault) E → (Edited → Type 0) → Type 0
IfEdited (Ok (Ok e)) P = P e
IfEdited _ P = ⊤

-- this holds of the fault, if there is one
abbrev pub IfRefused : {E : Type 0} → Result (Result Edited EditFault) E → (EditFault → Type 0) → Type 0
IfRefused (Ok (Err f)) P = P f
IfRefused _ P = ⊤

-- a fault that comes of the numbers alone
abbrev pub is_by_numbers : EditFault → Bool
is_by_numbers NoCue = true
is_by_numbers NoPlace = true
is_by_numbers Taken = true
is_by_numbers (Mistakes found) = false
is_by_numbers Form = false
