-- What is said and printed of a text, by what was found in it.
use Rattle.std.proofs.Common.{◌≡◌, ℕ, List, Option, Some, None, sym, subst, inr}
use Rattle.std.specs.Prelude.{OnOk, Result, Ok, Err}
use Rattle.std.specs.Io.KnownBytes.{Appends}
use Rattle.cue_desk.specs.declared.ending.Ending.{Ending}
use Rattle.cue_files_run.specs.Reading.{EndsAsFound, PrintsShow, PrintsSound}
use Rattle.cue_findings.specs.Checking.{IsFoundIn, ending_of}
use Rattle.cue_findings.specs.Words.{sound_words}
use Rattle.cue_findings.specs.declared.checking.Found.{Found}
use Rattle.cue_show.specs.Show.{ShowLists}
use Rattle.cue_show_file.specs.Written.{IsFileOf, file_text}
use Rattle.cue_show_file.specs.declared.file.ShowFile.{ShowFile}

pub ends_as : (text : List ℕ) (found : Found) (e : Ending) → IsFoundIn text found → Some e ≡ ending_of found
    → EndsAsFound text e
ends_as text found e are same = inr (inr (found, are, sym same))

pub prints_sound : {A E : Type 0} (text : List ℕ) (found : Found) (before after : Option (List ℕ)) (line : List ℕ)
    (r : Result A E) → IsFoundIn text found → None ≡ ending_of found → line ≡ sound_words found.devices found.cues
    → OnOk r (Appends before after line) → OnOk r (PrintsSound text before after)
prints_sound text found before after line (Ok x) are none same out =
    record {
      found = found;
      are = are;
      done = sym none;
      printed = subst (λ l. Appends before after l) same out;
    }
prints_sound text found before after line (Err e) are none same out = out

pub prints_show : {A E : Type 0} (show : ShowLists) (file : ShowFile) (before after : Option (List ℕ)) (text : List ℕ)
    (r : Result A E) → IsFileOf show file → text ≡ file_text file → OnOk r (Appends before after text)
    → OnOk r (PrintsShow show before after)
prints_show show file before after text (Ok x) of same out =
    record { file = file; of = of; printed = subst (λ t. Appends before after t) same out }
prints_show show file before after text (Err e) of same out = out
