-- Whether the text of a show file is taken.
use Rattle.std.specs.Prelude.{◌≡◌, ◌≢◌, ◌⊎◌, ⊤, ℕ, true, List, [], Some, None, IsTrue, is_some}
use Rattle.cue_findings.specs.declared.judging.Judged.{Judged}
use Rattle.cue_findings.specs.declared.judging.Judged.TheVariants as judged
use Rattle.cue_findings.specs.declared.judging.Looked.{Looked}
use Rattle.cue_findings.specs.declared.judging.Sound.{Sound}
use Rattle.cue_show.specs.Show.{empty_show}
use Rattle.cue_show_file.specs.Accepted.{after_file}
use Rattle.cue_show_file.specs.Reading.{names_no_place, said_of}
use Rattle.cue_show_file.specs.Said.{text_said}
use Rattle.cue_show_file.specs.declared.file.ShowFile.{ShowFile}
use Rattle.cue_show_file.specs.declared.mistake.Finding.{Finding}

-- a text without a place on the network that says the devices and cues of this file, all of which a controller takes
pub record IsWhole (text : List ℕ) (file : ShowFile) : Type 0 where
  pub no_place : IsTrue (names_no_place text)
  pub says : is_some (text_said text) ≡ true
  pub taken : is_some (after_file empty_show file) ≡ true

-- What is told of a text: nothing only if it says this file and a controller takes all of it; and nothing of a text that
-- does. A text without a place on the network that says a file says this one.
pub record IsTold (text : List ℕ) (file : ShowFile) (told : List Finding) : Type 0 where
  pub said : told ≡ [] → text_said text ≡ Some (said_of file)
  pub taken : told ≡ [] → is_some (after_file empty_show file) ≡ true
  pub whole : IsWhole text file → told ≡ []
  pub read : IsTrue (names_no_place text) → is_some (text_said text) ≡ true → text_said text ≡ Some (said_of file)

-- The text was read as this file, and its show is what a controller makes of it.
pub record IsLookedAt (text : List ℕ) (l : Looked) : Type 0 where
  pub told : IsTold text l.file l.told.items
  pub show : l.show ≡ after_file empty_show l.file

-- it is sound, and this holds of it
abbrev pub IfSound : Judged → (Sound → Type 0) → Type 0
IfSound (judged.Sound s) P = P s
IfSound (judged.Wrong found) P = ⊤

-- it has mistakes, and this holds of them
abbrev pub IfWrong : Judged → (List Finding → Type 0) → Type 0
IfWrong (judged.Sound s) P = ⊤
IfWrong (judged.Wrong found) P = P found.items

-- it is sound exactly if there is nothing to tell and a show
pub record IsAsLooked (l : Looked) (s : Sound) : Type 0 where
  pub none : l.told.items ≡ []
  pub file : s.file ≡ l.file
  pub show : l.show ≡ Some s.show

pub record IsWrong (l : Looked) (found : List Finding) : Type 0 where
  pub same : found ≡ l.told.items
  pub no_show : l.told.items ≡ [] → l.show ≡ None

pub record IsJudged (l : Looked) (j : Judged) : Type 0 where
  pub sound : IfSound j (IsAsLooked l)
  pub wrong : IfWrong j (IsWrong l)

-- ---- of a text

-- the text says exactly the devices and the cues of the file, and the show is what a controller makes of them
pub record IsSaidBy (text : List ℕ) (s : Sound) : Type 0 where
  pub said : text_said text ≡ Some (said_of s.file)
  pub show : after_file empty_show s.file ≡ Some s.show

-- it says no file, or one that a controller refuses; of a text that names places on the network nothing is said here
abbrev pub SaysNoShow : List ℕ → Type 0
SaysNoShow text =
    IsTrue (names_no_place text)
    → (text_said text ≡ None)
    ⊎ ((file : ShowFile) × (text_said text ≡ Some (said_of file)) × (after_file empty_show file ≡ None))

-- something is told, and the text is wrong
pub record HasMistake (text : List ℕ) (found : List Finding) : Type 0 where
  pub some : found ≢ []
  pub wrong : SaysNoShow text
