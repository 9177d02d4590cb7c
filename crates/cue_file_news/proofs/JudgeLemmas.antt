-- A text that is refused has a mistake.
use Rattle.std.proofs.Common.{◌≡◌, ◌==◌, ℕ, Bool, false, ◌&&◌, List, [], ◌∷◌, length, Option, IsTrue}
use Rattle.std.proofs.Common.{inl, inr, sym, ap, ◌∙◌}
use Rattle.std.specs.Prelude.{Result, Err, is_ok}
use Rattle.cue_show_file.specs.Reading.{names_no_place, said_without}
use Rattle.cue_show_file.specs.Said.{text_said}
use Rattle.cue_show_file.specs.declared.file.ShowFile.{ShowFile}
use Rattle.cue_show_file.specs.declared.mistake.Finding.{Finding}
use Rattle.cue_file_news.specs.Judging.{HasMistake, is_shown}

pub refused : (verdict : Result (Unit {0}) (Option ℕ)) (line : Option ℕ) (b : Bool) → verdict ≡ Err line
    → is_ok verdict ≡ b → false ≡ b
refused verdict line b e f = sym (ap is_ok e) ∙ f

pub has_mistake : (text : List ℕ) (file : ShowFile) (found : List Finding)
    → (IsTrue (names_no_place text) → said_without found file ≡ text_said text)
    → false ≡ ((length found == 0) && is_shown file) → HasMistake text
has_mistake text file [] said off = λ h. inr (file, sym (said h), sym off)
has_mistake text file (f ∷ fs) said off = λ h. inl (sym (said h))
