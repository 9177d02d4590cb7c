-- The names of the copies that loads keep beside a show file, and which of them is taken.
use Rattle.std.specs.Prelude.{◌≡◌, ◌≢◌, ◌⊎◌, ℕ, ◌+◌, ◌==◌, Bool, true, ◌&&◌, if◌then◌else◌, List, [], ◌∷◌, ◌++◌, codes}
use Rattle.std.specs.Prelude.{decimal, nat_lt, false, string_bytes, Result, Ok, Err, ⊤}
use Rattle.std.specs.Char.{is_ascii_digit}
use Rattle.std.specs.List.{list_all}
use Rattle.cue_load_words.specs.declared.copies.Attempt.{Attempt}
use Rattle.cue_load_words.specs.declared.copies.Attempt.TheVariants as attempt
use Rattle.cue_load_words.specs.declared.copies.Kept.{Kept}
use Rattle.cue_load_words.specs.declared.copies.Kept.TheVariants as kept
use Rattle.cue_load_words.specs.declared.copies.TheConstants.{MAX_KEPT}
use Rattle.cue_load_words.specs.declared.copies.Keeping.{Keeping}
use Rattle.cue_load_words.specs.declared.copies.Keeping.TheVariants as keeping

-- ---- which name is taken

-- a copy stands under a name where nothing was, or where the very same text is; else the next name is tried, up to the
-- last one
abbrev pub next_of : ℕ → Attempt → Keeping
next_of number attempt.Written = keeping.Kept
next_of number attempt.HasSame = keeping.Kept
next_of number attempt.HasOther = if nat_lt number MAX_KEPT then keeping.Next (number + 1) else keeping.Full

-- ---- names

-- the ending of a show file, and what stands before the number of a copy
abbrev pub toml : List ℕ
toml = codes ".toml"

abbrev pub before : List ℕ
before = codes ".before"

-- the first copy has no number
abbrev pub turn_of : ℕ → List ℕ
turn_of number = if number == 1 then [] else codes "-" ++ decimal number

-- the name of the copy with a number, from 1
abbrev pub kept_name : List ℕ → ℕ → List ℕ
kept_name stem number = stem ++ (before ++ (turn_of number ++ toml))

-- ---- of which show file

abbrev pub are_digits : List ℕ → Bool
are_digits text = list_all is_ascii_digit text

-- nothing, or a dash and digits
abbrev pub is_turn : List ℕ → Bool
is_turn [] = true
is_turn (b ∷ bs) = b == 45 && are_digits bs

-- rest is the text without this ending; the text itself if it does not end so
abbrev pub IsWithout : (ending text rest : List ℕ) → Type 0
IsWithout ending text rest =
    (text ≡ rest ++ ending) ⊎ (((front : List ℕ) → text ≢ front ++ ending) × (rest ≡ text))

-- a name without its ending is that of a copy of what is kept of first
pub record IsCopyOf (first bare : List ℕ) : Type 0 where
  pub turn : List ℕ
  pub is : is_turn turn ≡ true
  pub all : bare ≡ first ++ (before ++ turn)

-- first is what the names of copies begin with: of a copy, what its own name begins with
abbrev pub IsFirst : (bare first : List ℕ) → Type 0
IsFirst bare first = IsCopyOf first bare ⊎ (((other : List ℕ) → IsCopyOf other bare → ⊥) × (first ≡ bare))

-- The names of the copies of this show file begin so.
pub record IsStem (path stem : List ℕ) : Type 0 where
  pub bare : List ℕ
  pub without : IsWithout toml path bare
  pub first : IsFirst bare stem

-- ---- where a copy is

-- a copy that is kept has one of the names for copies of the show file with this path
abbrev pub IsBeside : List ℕ → Kept → Type 0
IsBeside path (kept.In name) =
    (stem : List ℕ) × (number : ℕ) × IsStem path stem × (string_bytes name ≡ kept_name stem number)
IsBeside path kept.Full = ⊤

-- it stands in a file, and its names were not all taken
abbrev pub is_kept : {E : Type 0} → Result Kept E → Bool
is_kept (Ok (kept.In name)) = true
is_kept (Ok kept.Full) = false
is_kept (Err e) = false
