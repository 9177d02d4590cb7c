-- Whether a text is a show file that a desk can show.
use Rattle.std.specs.Prelude.{◌≡◌, ◌==◌, ℕ, Bool, false, ◌&&◌, not, List, length, Some, None, IsTrue, is_some, ◌⊎◌}
use Rattle.cue_show.specs.Show.{empty_show}
use Rattle.cue_show_file.specs.Accepted.{after_file}
use Rattle.cue_show_file.specs.Reading.{names_no_place, said_of}
use Rattle.cue_show_file.specs.Said.{text_said}
use Rattle.cue_show_file.specs.declared.file.ShowFile.{ShowFile}

-- it has neither a device nor a cue
abbrev pub is_empty : ShowFile → Bool
is_empty file = (length file.devices.items == 0) && (length file.cues.items == 0)

-- the controller would take each of its devices and cues, and it is not empty
abbrev pub is_shown : ShowFile → Bool
is_shown file = is_some (after_file empty_show file) && not (is_empty file)

-- The file is what the text says, device by device and cue by cue, and it can be shown.
pub record IsShown (text : List ℕ) (file : ShowFile) : Type 0 where
  pub says : text_said text ≡ Some (said_of file)
  pub shows : IsTrue (is_shown file)

-- it says no show file, or one that cannot be shown: of a text that names no place on the network, whose mistakes are
-- not stated
abbrev pub HasMistake : List ℕ → Type 0
HasMistake text =
    IsTrue (names_no_place text)
    → (text_said text ≡ None) ⊎ ((file : ShowFile) × (text_said text ≡ Some (said_of file)) × (is_shown file ≡ false))
