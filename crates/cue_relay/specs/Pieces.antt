-- Pieces of a text, each found at its front: what it is, and what follows it.
use Rattle.std.specs.Prelude.{ℕ, ◌+◌, ◌-◌, ◌*◌, ◌^◌, min, Bool, not, ◌==◌, if◌then◌else◌, List, length, take, drop}
use Rattle.std.specs.Prelude.{position, Option, Some, None, nat_eq, nat_lt}
use Rattle.std.specs.Char.{is_ascii_digit}
use Rattle.std.specs.Cmp.Lexicographic.{pointwise}
use Rattle.std.specs.List.{fold}
use Rattle.std.specs.Option.{unwrap_or}

-- one step, and the next if it found something
infixl 10 ◌>>=◌
abbrev pub ◌>>=◌ : {A B : Type 0} → Option A → (A → Option B) → Option B
(Some x) >>= f = f x
None >>= f = None

-- what was found and what follows it; nothing, and the whole text, if it was not found
abbrev pub if_there : {A : Type 0} → Option (A × List ℕ) → List ℕ → Option A × List ℕ
if_there (Some x) text = (Some x.0, x.1)
if_there None text = (None, text)

-- the first that was found, else the other
abbrev pub first_of : {A : Type 0} → Option A → A → A
first_of (Some x) other = x
first_of None other = other

-- what follows these words
unfoldable pub after : List ℕ → List ℕ → Option (List ℕ)
after words text =
    if pointwise nat_eq (take (length words) text) words then Some (drop (length words) text) else None

-- how many bytes at the front pass a test
abbrev pub end_of : (ℕ → Bool) → List ℕ → ℕ
end_of p text = unwrap_or (position (λ x. not (p x)) text) (length text)

-- a number with one digit more, up to the largest that there is
abbrev pub next_number : ℕ → ℕ → ℕ
next_number sum byte = min (min (sum * 10) (2 ^ 64 - 1) + (byte - 48)) (2 ^ 64 - 1)

-- the number that digits are, up to the largest that there is
abbrev pub number_of : List ℕ → ℕ
number_of digits = fold next_number 0 digits

-- the number at the front; 0 if no digit stands there
unfoldable pub number_at : List ℕ → ℕ × List ℕ
number_at text = (number_of (take (end_of is_ascii_digit text) text), drop (end_of is_ascii_digit text) text)

-- the number after these words
unfoldable pub number_after : List ℕ → List ℕ → Option (ℕ × List ℕ)
number_after words text = after words text >>= λ rest. Some (number_at rest)

-- a byte that does not end a line
abbrev pub is_of_line : ℕ → Bool
is_of_line b = not (b == 10)

-- the rest of a line, and what follows it, beginning with its line feed
unfoldable pub line_at : List ℕ → List ℕ × List ℕ
line_at text = (take (end_of is_of_line text) text, drop (end_of is_of_line text) text)

-- a number that is below a bound
abbrev pub below : ℕ → ℕ → Option ℕ
below bound n = if nat_lt n bound then Some n else None

-- a number of 32 bits, after these words
unfoldable pub word_after : List ℕ → List ℕ → Option (ℕ × List ℕ)
word_after words text = number_after words text >>= λ n. below 4294967296 n.0 >>= λ seq. Some (seq, n.1)
