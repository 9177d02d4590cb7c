-- What is told of the text of a show file.
use Rattle.std.proofs.Common.{◌≡◌, ◌∙◌, ℕ, ◌==◌, true, ◌&&◌, ◌⊎◌, List, [], ◌∷◌, length}
use Rattle.std.proofs.Common.{Option, Some, None, is_some, IsTrue, refl, sym, ap, inl, inr}
use Rattle.std.proofs.lemmas.Bool.{eqb-true, false≢true}
use Rattle.std.proofs.lemmas.List.{nil_from_length}
use Rattle.cue_findings.specs.Judging.{HasMistake, IfSound, IfWrong, IsJudged, IsLookedAt, IsSaidBy, IsTold}
use Rattle.cue_findings.specs.Judging.{SaysNoShow}
use Rattle.cue_findings.specs.declared.judging.Judged.{Judged}
use Rattle.cue_findings.specs.declared.judging.Judged.TheVariants as judged
use Rattle.cue_findings.specs.declared.judging.Looked.{Looked}
use Rattle.cue_show.proofs.TestLemmas.{both, join}
use Rattle.cue_show.specs.Show.{ShowLists, Cues, empty_show}
use Rattle.cue_show_file.specs.Accepted.{after_file}
use Rattle.cue_show_file.specs.Reading.{names_no_place, said_of, said_without}
use Rattle.cue_show_file.specs.Said.{text_said}
use Rattle.cue_show_file.specs.declared.file.ShowFile.{ShowFile}
use Rattle.cue_show_file.specs.declared.mistake.Finding.{Finding}

-- a list without a length has nothing
pub empty_of : {A : Type 0} (xs : List A) → (length xs == 0) ≡ true → xs ≡ []
empty_of xs h = nil_from_length xs (eqb-true (length xs) 0 h)

pub length_none : {A : Type 0} (xs : List A) → xs ≡ [] → (length xs == 0) ≡ true
length_none xs e = ap (λ l. length l == 0) e

-- where a text says something nothing was found in it
none_found : (found : List Finding) (file : ShowFile) (said : Option (List (ℕ × ℕ) × Cues))
    → said_without found file ≡ said → is_some said ≡ true → found ≡ []
none_found [] file said e h = refl
none_found (x ∷ xs) file said e h = absurd (false≢true (ap is_some e ∙ h))

pub is_told : (text : List ℕ) (file : ShowFile) (read checked told : List Finding) (show : Option ShowLists)
    → (read ≡ [] → text_said text ≡ Some (said_of file))
    → (IsTrue (names_no_place text) → said_without read file ≡ text_said text)
    → (length told == 0) ≡ ((length read == 0) && (length checked == 0))
    → (length checked == 0) ≡ is_some show → show ≡ after_file empty_show file → IsTold text file told
is_told text file read checked told show said whole none taken same =
    record {
      said = λ e. said (empty_of read (parts e).0);
      taken = λ e. ap is_some (sym same) ∙ (sym taken ∙ (parts e).1);
      whole = λ w. empty_of told (none ∙ join (length read == 0) (length checked == 0)
          (length_none read (none_found read file (text_said text) (whole w.no_place) w.says))
          (taken ∙ (ap is_some same ∙ w.taken)));
      read = λ h k. said (none_found read file (text_said text) (whole h) k);
    }
  where
    parts : told ≡ [] → IsTrue (length read == 0) × IsTrue (length checked == 0)
    parts e = both (length read == 0) (length checked == 0) (sym none ∙ length_none told e)

pub sound_said : (text : List ℕ) (l : Looked) (j : Judged) → IsLookedAt text l → IsJudged l j
    → IfSound j (IsSaidBy text)
sound_said text l (judged.Wrong found) look is = tt
sound_said text l (judged.Sound s) look is =
    record {
      said = look.told.said is.sound.none ∙ ap (λ f. Some (said_of f)) (sym is.sound.file);
      show = ap (λ f. after_file empty_show f) is.sound.file ∙ (sym look.show ∙ is.sound.show);
    }

-- where nothing is told there is a show
no_show : (text : List ℕ) (l : Looked) → IsLookedAt text l → l.told.items ≡ [] → (l.told.items ≡ [] → l.show ≡ None)
    → ⊥
no_show text l look none gone =
    false≢true (sym (ap is_some (gone none)) ∙ (ap is_some look.show ∙ look.told.taken none))

says_no_show : (text : List ℕ) (l : Looked) → IsLookedAt text l → (l.told.items ≡ [] → l.show ≡ None)
    → SaysNoShow text
says_no_show text l look gone = λ h. by h (text_said text) refl
  where
    with_show : IsTrue (names_no_place text) → is_some (text_said text) ≡ true → (o : Option ShowLists)
        → after_file empty_show l.file ≡ o
        → (text_said text ≡ None)
        ⊎ ((file : ShowFile) × (text_said text ≡ Some (said_of file)) × (after_file empty_show file ≡ None))
    with_show h k None e = inr (l.file, look.told.read h k, e)
    with_show h k (Some s) e =
        absurd (no_show text l look
        (look.told.whole (record { no_place = h; says = k; taken = ap is_some e })) gone)

    by : IsTrue (names_no_place text) → (said : Option (List (ℕ × ℕ) × Cues)) → text_said text ≡ said
        → (text_said text ≡ None)
        ⊎ ((file : ShowFile) × (text_said text ≡ Some (said_of file)) × (after_file empty_show file ≡ None))
    by h None e = inl e
    by h (Some x) e = with_show h (ap is_some e) (after_file empty_show l.file) refl

pub wrong_has : (text : List ℕ) (l : Looked) (j : Judged) → IsLookedAt text l → IsJudged l j
    → IfWrong j (HasMistake text)
wrong_has text l (judged.Sound s) look is = tt
wrong_has text l (judged.Wrong found) look is =
    record {
      some = λ e. no_show text l look (sym is.wrong.same ∙ e) is.wrong.no_show;
      wrong = says_no_show text l look is.wrong.no_show;
    }
