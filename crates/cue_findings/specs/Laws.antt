-- Laws of what `check` says of a show file, and how it ends, for every text.
use Rattle.std.specs.Prelude.{◌≡◌, ℕ, true, List, None, Some, is_some}
use Rattle.std.specs.List.{Contains}
use Rattle.cue_desk.specs.declared.ending.Ending.TheVariants as ending
use Rattle.cue_findings.specs.Checking.{IsFoundIn, ending_of}
use Rattle.cue_findings.specs.declared.checking.Found.{Found}
use Rattle.cue_show.specs.Show.{empty_show}
use Rattle.cue_show_file.specs.Accepted.{after_file}
use Rattle.cue_show_file.specs.Reading.{said_of}
use Rattle.cue_show_file.specs.Reviewed.{is_reviewed}
use Rattle.cue_show_file.specs.Said.{text_said}
use Rattle.cue_show_file.specs.declared.file.ShowFile.{ShowFile}
use Rattle.cue_show_file.specs.declared.mistake.Finding.{Finding}

-- the text says a file that a controller takes, and that fits an evening
pub record IsSound (text : List ℕ) : Type 0 where
  pub file : ShowFile
  pub said : text_said text ≡ Some (said_of file)
  pub taken : is_some (after_file empty_show file) ≡ true
  pub fits : is_reviewed file ≡ true

-- with status 0 there is no mistake
abbrev pub DoneIsSound : Type 0
DoneIsSound = (text : List ℕ) (f : Found) → IsFoundIn text f → ending_of f ≡ None → IsSound text

-- whatever is a mistake refuses the file
abbrev pub MistakeRefuses : Type 0
MistakeRefuses =
    (f : Found) (x : Finding) → Contains f.mistakes.items x → ending_of f ≡ Some ending.Refused

-- each mistake that was told of the file is named
abbrev pub EachIsNamed : Type 0
EachIsNamed =
    (text : List ℕ) (f : Found) (found : IsFoundIn text f) (x : Finding) → Contains found.told x
    → Contains f.mistakes.items x

-- other hints change nothing of how it ends
abbrev pub HintsRefuseNothing : Type 0
HintsRefuseNothing = (f g : Found) → g.mistakes ≡ f.mistakes → g.plan ≡ f.plan → ending_of g ≡ ending_of f
