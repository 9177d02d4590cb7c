-- Helper: how a few bytes lie in a fixed number of places, the bytes first and zeros after them.
use Rattle.std.specs.Prelude.{◌≡◌, ◌≤◌, ℕ, ◌-◌, List, ◌++◌, length, take, replicate}

-- the bytes in the places
abbrev pub kept_in : List ℕ → ℕ → List ℕ
kept_in places len = take len places

-- so many places with the bytes in them
abbrev pub padded : ℕ → List ℕ → List ℕ
padded n bytes = bytes ++ replicate (n - length bytes) 0

-- of so many places the first hold bytes, and the others zeros
pub record IsPadded (n : ℕ) (places : List ℕ) (len : ℕ) : Type 0 where
  pub short : len ≤ n
  pub whole : length (kept_in places len) ≡ len
  pub zeros : padded n (kept_in places len) ≡ places
