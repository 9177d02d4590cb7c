-- What is said and printed of the text of a show file, and of a show.
use Rattle.std.specs.Prelude.{◌≡◌, ◌⊎◌, ℕ, List, Option, None, Some}
use Rattle.std.specs.Io.KnownBytes.{Appends}
use Rattle.cue_desk.specs.declared.ending.Ending.{Ending}
use Rattle.cue_desk.specs.declared.ending.Ending.TheVariants as ending
use Rattle.cue_findings.specs.Checking.{IsFoundIn, ending_of}
use Rattle.cue_findings.specs.Judging.{HasMistake}
use Rattle.cue_findings.specs.Words.{sound_words}
use Rattle.cue_findings.specs.declared.checking.Found.{Found}
use Rattle.cue_show.specs.Show.{ShowLists}
use Rattle.cue_show_file.specs.Written.{IsFileOf, file_text}
use Rattle.cue_show_file.specs.declared.file.ShowFile.{ShowFile}
use Rattle.cue_show_file.specs.declared.mistake.Finding.{Finding}

-- memory ran out, or the text has a mistake
abbrev pub RefusesMistakes : List ℕ → Ending → Type 0
RefusesMistakes text e =
    (e ≡ ending.Failed) ⊎ ((e ≡ ending.Refused) × (found : List Finding) × HasMistake text found)

-- nothing of the text has to be mended, and the line that says so is printed
pub record PrintsSound (text : List ℕ) (before after : Option (List ℕ)) : Type 0 where
  pub found : Found
  pub are : IsFoundIn text found
  pub done : ending_of found ≡ None
  pub printed : Appends before after (sound_words found.devices found.cues)

-- memory or the output failed, or what was found ends it so
abbrev pub EndsAsFound : List ℕ → Ending → Type 0
EndsAsFound text e =
    (e ≡ ending.Failed) ⊎ ((e ≡ ending.Unwritten) ⊎ ((found : Found) × IsFoundIn text found × (ending_of found ≡ Some e)))

-- the show file of a show is printed
pub record PrintsShow (show : ShowLists) (before after : Option (List ℕ)) : Type 0 where
  pub file : ShowFile
  pub of : IsFileOf show file
  pub printed : Appends before after (file_text file)
