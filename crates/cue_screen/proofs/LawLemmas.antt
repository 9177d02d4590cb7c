-- What a terminal shows after pictures, one after the other.
use Rattle.std.proofs.Common.{◌≡◌, ◌≢◌, ◌⊎◌, ◌∙◌, refl, sym, ap, subst, arith, ℕ, ◌+◌, ◌<◌, ◌^◌, inl, inr}
use Rattle.std.proofs.Common.{Bool, true, false, List, [], ◌∷◌, ◌++◌, append-nil, length}
use Rattle.std.specs.Prelude.{if◌then◌else◌, nat_lt}
use Rattle.std.specs.List.{AllByRecursion}
use Rattle.std.proofs.lemmas.Bool.{cases_lt, ltb-true}
use Rattle.cue_screen.specs.Laws.{Fits, IsScreen, Shows, ShowsAgain, ShowsLast, StaysUnwritten}
use Rattle.cue_screen.specs.Pictures.{Seen, after, counted, picture_of, unseen, written}
use Rattle.cue_screen.specs.Terminal.{Awaited, Text, Window, given}
use Rattle.cue_screen.proofs.PictureLemmas.{Drawn, HasAll, picture-given, picture-shows, picture-stays}
use Rattle.cue_screen.proofs.TerminalLemmas.{given-append}

-- a picture, and those after it
written-then : (s : Seen) (w : Window) (lines last : List (List ℕ)) (pictures : List (List (List ℕ)))
    → (given Text w (picture_of s lines)).0 ≡ Text
    → Shows last
    (given Text (given Text w (picture_of s lines)).1 (written (after s lines) (pictures ++ last ∷ [])))
    → Shows last (given Text w (written s (lines ∷ (pictures ++ last ∷ []))))
written-then s w lines last pictures awaits rest =
    let t : Awaited × Window = given Text w (picture_of s lines) in
    let text : List ℕ = written (after s lines) (pictures ++ last ∷ []) in
    subst (Shows last)
    (sym (given-append Text w (picture_of s lines) text ∙ ap (λ a. given a t.1 text) awaits)) rest

-- one picture alone
written-one : (s : Seen) (w : Window) (last : List (List ℕ)) → Shows last (given Text w (picture_of s last))
    → Shows last (given Text w (written s (last ∷ [])))
written-one s w last shows =
    subst (λ text. Shows last (given Text w text)) (sym (append-nil (picture_of s last))) shows

fits-of : (height : ℕ) (lines : List (List ℕ)) → height < 2 ^ 63 → Fits height lines → length lines < 2 ^ 63
fits-of height lines small fits = omega (arith, fits.0)

-- If the terminal shows the lines that were drawn last, it shows those of the last picture.
all-show : (pictures : List (List (List ℕ))) (s : Seen) (w : Window) (last : List (List ℕ)) → IsScreen w
    → length s.lines < 2 ^ 63 → AllByRecursion (Fits w.height) (pictures ++ last ∷ [])
    → (s.pictures ≢ 0 → HasAll w.height s.lines w.rows)
    → Shows last (given Text w (written s (pictures ++ last ∷ [])))
all-show [] s w last small short fits known =
    written-one s w last (picture-shows s w last small fits.0 short known).shows
all-show (lines ∷ pictures) s w last small short fits known =
    let t : Awaited × Window = given Text w (picture_of s lines) in
    let drawn : Drawn lines w t = picture-shows s w lines small fits.0 short known in
    let same : t.1.height ≡ w.height = drawn.height in
    written-then s w lines last pictures drawn.shows.awaits
    (all-show pictures (after s lines) t.1 last (omega (arith, small, same))
    (fits-of w.height lines small fits.0)
    (subst (λ h. AllByRecursion (Fits h) (pictures ++ last ∷ [])) (sym same) fits.1)
    (λ later. drawn.shows.rows))

pub shows-last : ShowsLast
shows-last w pictures last small fits =
    all-show pictures unseen w last small (omega arith) fits (λ later. absurd (later refl))

-- ---- after twenty pictures

-- of so many pictures one that is not the last draws all lines, or the next one does
abbrev Again : (pictures count : ℕ) → Type 0
Again pictures count = (pictures ≡ 0) ⊎ ((1 < count) × (20 < pictures + count))

again-next : (k n : ℕ) → 1 < n + 1 → 20 < k + (n + 1) → Again (counted k) n
again-next k n two long = by (nat_lt k 19) refl
  where
    by : (t : Bool) → nat_lt k 19 ≡ t → Again (if t then k + 1 else 0) n
    by true is = let below : k < 19 = ltb-true k 19 is in inr (omega arith, omega arith)
    by false is = inl refl

-- what a picture leaves, whatever stood there before
record Left (w : Window) (terminal : Awaited × Window) : Type 0 where
  height : terminal.1.height ≡ w.height
  awaits : terminal.0 ≡ Text

picture-left : (s : Seen) (w : Window) (lines : List (List ℕ)) → IsScreen w → Fits w.height lines
    → length s.lines < 2 ^ 63 → Left w (given Text w (picture_of s lines))
picture-left s w lines small fits short =
    subst (Left w) (sym (picture-given s w lines small fits short)) (record { height = refl; awaits = refl })

again-show : (pictures : List (List (List ℕ))) (s : Seen) (w : Window) (last : List (List ℕ)) → IsScreen w
    → length s.lines < 2 ^ 63 → AllByRecursion (Fits w.height) (pictures ++ last ∷ [])
    → Again s.pictures (length (pictures ++ last ∷ []))
    → Shows last (given Text w (written s (pictures ++ last ∷ [])))
again-show pictures s w last small short fits (inl none) =
    all-show pictures s w last small short fits (λ later. absurd (later none))
again-show [] s w last small short fits (inr more) = absurd (omega (arith, more.0))
again-show (lines ∷ pictures) s w last small short fits (inr more) =
    let t : Awaited × Window = given Text w (picture_of s lines) in
    let left : Left w t = picture-left s w lines small fits.0 short in
    let same : t.1.height ≡ w.height = left.height in
    let n : ℕ = length (pictures ++ last ∷ []) in
    written-then s w lines last pictures left.awaits
    (again-show pictures (after s lines) t.1 last (omega (arith, small, same))
    (fits-of w.height lines small fits.0)
    (subst (λ h. AllByRecursion (Fits h) (pictures ++ last ∷ [])) (sym same) fits.1)
    (again-next s.pictures n (omega (arith, more.0)) (omega (arith, more.1))))

pub shows-again : ShowsAgain
shows-again s w pictures last small short long fits =
    elim (cases_lt 0 s.pictures) [
      | inl later ↦ again-show pictures s w last small short fits (inr (omega arith, omega arith))
      | inr none ↦ again-show pictures s w last small short fits (inl (omega arith))
    ]

pub stays-unwritten : StaysUnwritten
stays-unwritten s w lines row small short fits later within is_shown same =
    picture-stays s w lines row small fits short later within is_shown same
