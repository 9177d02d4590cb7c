-- The colour and the flag of a cue, and the words that stand for them in a show file.
use Rattle.std.specs.Prelude.{◌≡◌, ℕ, List, [], ◌∷◌, codes, Option, Some, find}
use Rattle.cue_show.specs.Number.{same_text}
use Rattle.cue_show_file.specs.declared.marks.Color.{Color}
use Rattle.cue_show_file.specs.declared.marks.Color.TheVariants as color
use Rattle.cue_show_file.specs.declared.marks.Flag.{Flag}
use Rattle.cue_show_file.specs.declared.marks.Flag.TheVariants as flag

-- the word of a colour
abbrev pub color_word : Color → List ℕ
color_word color.Red = codes "red"
color_word color.Orange = codes "orange"
color_word color.Yellow = codes "yellow"
color_word color.Green = codes "green"
color_word color.Blue = codes "blue"
color_word color.Purple = codes "purple"
color_word color.White = codes "white"

-- the word of a flag
abbrev pub flag_word : Flag → List ℕ
flag_word flag.Danger = codes "danger"
flag_word flag.Fly = codes "fly"
flag_word flag.Trap = codes "trap"

abbrev pub all_colors : List Color
all_colors =
    color.Red ∷ color.Orange ∷ color.Yellow ∷ color.Green ∷ color.Blue ∷ color.Purple ∷ color.White ∷ []

abbrev pub all_flags : List Flag
all_flags = flag.Danger ∷ flag.Fly ∷ flag.Trap ∷ []

-- the colour that has the word
abbrev pub color_of : List ℕ → Option Color
color_of word = find (λ c. same_text (color_word c) word) all_colors

-- the flag that has the word
abbrev pub flag_of : List ℕ → Option Flag
flag_of word = find (λ f. same_text (flag_word f) word) all_flags

-- A word that is written is read as what it was written for, and what is read of a word is written as this very word.
pub record MarksHaveTheirWords : Type 0 where
  pub color : (c : Color) → color_of (color_word c) ≡ Some c
  pub flag : (f : Flag) → flag_of (flag_word f) ≡ Some f
  pub color_back : (t : List ℕ) (c : Color) → color_of t ≡ Some c → color_word c ≡ t
  pub flag_back : (t : List ℕ) (f : Flag) → flag_of t ≡ Some f → flag_word f ≡ t
