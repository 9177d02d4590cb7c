-- What a copy of a store says.
use Rattle.std.specs.Prelude.{◌≡◌, ℕ, List, ◌++◌, codes, Some}
use Rattle.cue_loading.specs.declared.comparing.Difference.{Difference}
use Rattle.cue_loading.specs.declared.manner.Manner.{Manner}
use Rattle.cue_load_machine.specs.declared.planned.Copied.{Copied}
use Rattle.cue_load_machine.specs.Differing.{changes_stored}
use Rattle.cue_show.specs.Show.{ShowLists}
use Rattle.cue_show_file.specs.declared.file.ShowFile.{ShowFile}
use Rattle.cue_show_file.specs.Written.{IsFileOf, file_text}
use Rattle.cue_load_words.specs.Telling.{AreDifferences}

-- the file, for the controller at this port
abbrev pub of_port : ShowFile → ℕ → ShowFile
of_port file port = record file { port = Some port }

-- a comment, and the text of the file
abbrev pub copy_text : ShowFile → ℕ → List ℕ
copy_text file port =
    codes "# What the store had before a load. `load --exact` takes it back.\n" ++ file_text (of_port file port)

-- The text is that of a show file with all devices and cues of the store, in order, and nothing else.
pub record IsCopyText (stored : ShowLists) (port : ℕ) (text : List ℕ) : Type 0 where
  pub file : ShowFile
  pub of : IsFileOf stored file
  pub is : text ≡ copy_text file port

-- The copy has all that the store has. It is wanted if a load of this manner changes something of a store that is not
-- empty.
pub record IsCopied (manner : Manner) (file stored : ShowLists) (port : ℕ) (copied : Copied) : Type 0 where
  pub copy : IsCopyText stored port copied.text.items
  pub found : List Difference
  pub are : AreDifferences file stored found
  pub wanted : copied.is_wanted ≡ changes_stored manner stored found
