-- Helper: names side by side, each in a lane: the bit of that place in each word of a table.
use Rattle.std.specs.Prelude.{◌≡◌, ◌<◌, ◌≤◌, ℕ, zero, suc, ◌+◌, ◌*◌, Bool, true, false, ◌&&◌, ◌==◌, nat_le, nat_lt}
use Rattle.std.specs.Prelude.{List, [], ◌∷◌, length, drop, slice_index_or}
use Rattle.std.specs.Int.{bit_at}
use Rattle.std.specs.List.{list_all}
use Rattle.cue_pattern.specs.declared.lanes.Lanes.{Lanes}
use Rattle.cue_pattern.specs.declared.limits.TheConstants.{FIRST_LETTER, LETTERS, ROWS}

-- whether the word has the bit of this lane
abbrev pub lane : ℕ → ℕ → Bool
lane j word = bit_at word j == 1

-- a byte that has rows in the table: a point, a slash or a digit
abbrev pub is_letter : ℕ → Bool
is_letter b = nat_le FIRST_LETTER b && nat_lt b (FIRST_LETTER + LETTERS)

-- whether a byte that passes the test stands at this position of the text
abbrev pub stands_at : (ℕ → Bool) → List ℕ → ℕ → Bool
stands_at test [] k = false
stands_at test (b ∷ t) zero = test b
stands_at test (b ∷ t) (suc k) = stands_at test t k

-- the lane of the row has the positions of the text where a byte that passes the test stands
abbrev pub Marks : (ℕ → Bool) → List ℕ → ℕ → List ℕ → Type 0
Marks test text j row = (k : ℕ) → k < ROWS → lane j (slice_index_or row k 0) ≡ stands_at test text k

-- the lane of the table has this text: where each letter stands, and where the text ends
pub record Stands (lanes : Lanes) (j : ℕ) (text : List ℕ) : Type 0 where
  pub long : length text < ROWS
  pub known : list_all is_letter text ≡ true
  pub letter : (l k : ℕ) → l < LETTERS → k < ROWS
      → lane j (slice_index_or lanes.letters (l * ROWS + k) 0) ≡ stands_at (λ b. FIRST_LETTER + l == b) text k
  pub end : (k : ℕ) → lane j (slice_index_or lanes.ends k 0) ≡ (k == length text)

-- the lane of the table has nothing
pub record IsBlank (lanes : Lanes) (j : ℕ) : Type 0 where
  pub letter : (i : ℕ) → lane j (slice_index_or lanes.letters i 0) ≡ false
  pub end : (i : ℕ) → lane j (slice_index_or lanes.ends i 0) ≡ false

-- the lane of both tables has the same
pub record SameLane (j : ℕ) (a b : Lanes) : Type 0 where
  pub letter : (i : ℕ) → lane j (slice_index_or a.letters i 0) ≡ lane j (slice_index_or b.letters i 0)
  pub end : (i : ℕ) → lane j (slice_index_or a.ends i 0) ≡ lane j (slice_index_or b.ends i 0)

-- the lane of the rows says from which positions of the text the test passes
pub record Reaches (test : List ℕ → Bool) (text : List ℕ) (j : ℕ) (rows : List ℕ) : Type 0 where
  pub marks : (k : ℕ) → k ≤ length text → lane j (slice_index_or rows k 0) ≡ test (drop k text)
  pub beyond : (k : ℕ) → length text < k → lane j (slice_index_or rows k 0) ≡ false
