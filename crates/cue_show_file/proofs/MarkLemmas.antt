-- Each colour and each flag has its own word.
use Rattle.std.proofs.Common.{◌≡◌, ℕ, Bool, true, false, if◌then◌else◌, List, [], ◌∷◌, Some, is_some}
use Rattle.std.proofs.Common.{refl, ap, subst}
use Rattle.std.specs.Prelude.{find}
use Rattle.std.proofs.lemmas.Bool.{false≢true}
use Rattle.std.proofs.lemmas.Option.{same_Some}
use Rattle.cue_show.specs.Number.{same_text}
use Rattle.cue_show.proofs.TextLemmas.{same_text-true}
use Rattle.cue_show_file.specs.declared.marks.Color.{Color}
use Rattle.cue_show_file.specs.declared.marks.Color.TheVariants as color
use Rattle.cue_show_file.specs.declared.marks.Flag.{Flag}
use Rattle.cue_show_file.specs.declared.marks.Flag.TheVariants as flag
use Rattle.cue_show_file.specs.Marks.{MarksHaveTheirWords, all_colors, all_flags, color_of, color_word, flag_of, flag_word}

of-color : (c : Color) → color_of (color_word c) ≡ Some c
of-color color.Red = refl
of-color color.Orange = refl
of-color color.Yellow = refl
of-color color.Green = refl
of-color color.Blue = refl
of-color color.Purple = refl
of-color color.White = refl

of-flag : (f : Flag) → flag_of (flag_word f) ≡ Some f
of-flag flag.Danger = refl
of-flag flag.Fly = refl
of-flag flag.Trap = refl

-- what is found passes the test
found-passes : {A : Type 0} (test : A → Bool) (xs : List A) (x : A) → find test xs ≡ Some x → test x ≡ true
found-passes test [] x e = absurd (false≢true (ap is_some e))
found-passes test (y ∷ ys) x e = by (test y) refl e (found-passes test ys x)
  where
    by : (b : Bool) → test y ≡ b → (if b then Some y else find test ys) ≡ Some x
        → (find test ys ≡ Some x → test x ≡ true) → test x ≡ true
    by true is k more = subst (λ z. test z ≡ true) (same_Some y x k) is
    by false is k more = more k

color-back : (t : List ℕ) (c : Color) → color_of t ≡ Some c → color_word c ≡ t
color-back t c e =
    same_text-true (color_word c) t (found-passes (λ d. same_text (color_word d) t) all_colors c e)

flag-back : (t : List ℕ) (f : Flag) → flag_of t ≡ Some f → flag_word f ≡ t
flag-back t f e = same_text-true (flag_word f) t (found-passes (λ d. same_text (flag_word d) t) all_flags f e)

pub marks-have_their_words : MarksHaveTheirWords
marks-have_their_words =
    record { color = of-color; flag = of-flag; color_back = color-back; flag_back = flag-back }
