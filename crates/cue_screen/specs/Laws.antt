-- What a terminal shows that is given all that was written, over all lists of pictures.
use Rattle.std.specs.Prelude.{◌≡◌, ◌≢◌, ℕ, ◌<◌, ◌≤◌, ◌^◌, false, IsTrue, List, [], ◌∷◌, ◌++◌, length, get_or}
use Rattle.std.specs.List.{AllByRecursion}
use Rattle.cue_screen.specs.Pictures.{Seen, clean, picture_of, unseen, written}
use Rattle.cue_screen.specs.Terminal.{Awaited, Text, Window, given, is_text}
use Rattle.cue_screen.specs.declared.screen.TheConstants.{WHOLE}

-- no byte of the line is a control
abbrev pub IsPlain : List ℕ → Type 0
IsPlain line = AllByRecursion (λ b. IsTrue (is_text b)) line

-- a terminal of this height has a row for each of the lines, and one for the cursor after them
abbrev pub Fits : ℕ → List (List ℕ) → Type 0
Fits height lines = (length lines < height) × AllByRecursion IsPlain lines

-- The terminal shows these lines, each in its row, and nothing else. The cursor is at the beginning of the row after
-- them, and what somebody else writes there is written as if no board had been.
pub record Shows (lines : List (List ℕ)) (terminal : Awaited × Window) : Type 0 where
  pub rows : (row : ℕ) → row < terminal.1.height → terminal.1.rows row ≡ get_or lines row []
  pub row : terminal.1.row ≡ length lines
  pub column : terminal.1.column ≡ 0
  pub goes_on : terminal.1.is_cut ≡ false
  pub awaits : terminal.0 ≡ Text

-- no more rows, and no more lines, than a number can count
abbrev pub IsScreen : Window → Type 0
IsScreen w = w.height < 2 ^ 63

abbrev pub AreCounted : Seen → Type 0
AreCounted s = length s.lines < 2 ^ 63

-- Whatever a terminal shows before, and whatever pictures are drawn: it shows the lines of the last one.
abbrev pub ShowsLast : Type 0
ShowsLast =
    (w : Window) (pictures : List (List (List ℕ))) (last : List (List ℕ)) → IsScreen w
    → AllByRecursion (Fits w.height) (pictures ++ last ∷ [])
    → Shows last (given Text w (written unseen (pictures ++ last ∷ [])))

-- Whatever was drawn, and whatever somebody else made of the window since: after twenty pictures it shows the last one.
abbrev pub ShowsAgain : Type 0
ShowsAgain =
    (s : Seen) (w : Window) (pictures : List (List (List ℕ))) (last : List (List ℕ)) → IsScreen w
    → AreCounted s → WHOLE ≤ length (pictures ++ last ∷ []) → AllByRecursion (Fits w.height) (pictures ++ last ∷ [])
    → Shows last (given Text w (written s (pictures ++ last ∷ [])))

-- A line that stays is not written again, but in a picture of all lines: its row has what it had, whatever that is.
abbrev pub StaysUnwritten : Type 0
StaysUnwritten =
    (s : Seen) (w : Window) (lines : List (List ℕ)) (row : ℕ) → IsScreen w → AreCounted s
    → Fits w.height lines → s.pictures ≢ 0
    → row < length lines → row < length s.lines → get_or s.lines row [] ≡ get_or lines row []
    → (given Text w (picture_of s lines)).1.rows row ≡ w.rows row

-- no line that is drawn has a control
abbrev pub DrawnIsPlain : Type 0
DrawnIsPlain = (line : List ℕ) → IsPlain (clean line)
