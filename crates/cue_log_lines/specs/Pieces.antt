-- Pieces of a line: words at its front and at its end, the last of a sign, and numbers.
use Rattle.std.specs.Prelude.{ℕ, ◌+◌, ◌-◌, ◌*◌, ◌^◌, min, Bool, not, ◌==◌, ◌||◌, if◌then◌else◌, List, [], ◌∷◌, length, take, drop, position}
use Rattle.std.specs.Prelude.{Option, Some, None, nat_eq, nat_lt}
use Rattle.std.specs.Char.{is_ascii_digit}
use Rattle.std.specs.Cmp.Lexicographic.{pointwise}
use Rattle.std.specs.List.{fold}
use Rattle.std.specs.Option.{unwrap_or}
use Rattle.cue_show.specs.DeviceNumber.{device_of_byte}
use Rattle.cue_show.specs.Number.{is_cue_number}

-- one step, and the next if it found something
infixl 10 ◌>>=◌
abbrev pub ◌>>=◌ : {A B : Type 0} → Option A → (A → Option B) → Option B
(Some x) >>= f = f x
None >>= f = None

-- what is made of what was found, else the other
abbrev pub if_found : {A B : Type 0} → Option A → (A → B) → B → B
if_found (Some x) f other = f x
if_found None f other = other

-- what follows these words at the front of a text
unfoldable pub after : List ℕ → List ℕ → Option (List ℕ)
after words text =
    if pointwise nat_eq (take (length words) text) words then Some (drop (length words) text) else None

-- what stands before these words at the end of a text
unfoldable pub before : List ℕ → List ℕ → Option (List ℕ)
before words text =
    if pointwise nat_eq (drop (length text - length words) text) words
    then Some (take (length text - length words) text) else None

-- a byte before what was found, else the other
abbrev pub longer : ℕ → Option (List ℕ × List ℕ) → Option (List ℕ × List ℕ) → Option (List ℕ × List ℕ)
longer c (Some cut) other = Some (c ∷ cut.0, cut.1)
longer c None other = other

-- what stands before the last of these bytes, and what stands after it
unfoldable pub cut_last : ℕ → List ℕ → Option (List ℕ × List ℕ)
cut_last b [] = None
cut_last b (c ∷ cs) = longer c (cut_last b cs) (if c == b then Some ([], cs) else None)

-- a number that is below a bound
abbrev pub below : ℕ → ℕ → Option ℕ
below bound n = if nat_lt n bound then Some n else None

-- how many bytes at the front pass a test
abbrev pub end_of : (ℕ → Bool) → List ℕ → ℕ
end_of p text = unwrap_or (position (λ x. not (p x)) text) (length text)

-- a number with one digit more, up to the largest that there is
abbrev pub next_number : ℕ → ℕ → ℕ
next_number sum byte = min (min (sum * 10) (2 ^ 64 - 1) + (byte - 48)) (2 ^ 64 - 1)

-- the number that digits are, up to the largest that there is
abbrev pub number_of : List ℕ → ℕ
number_of digits = fold next_number 0 digits

-- the number at the front of a text, and what follows it; 0 if no digit stands there
unfoldable pub number_at : List ℕ → ℕ × List ℕ
number_at text = (number_of (take (end_of is_ascii_digit text) text), drop (end_of is_ascii_digit text) text)

-- a byte that may stand in a cue number
abbrev pub is_cue_sign : ℕ → Bool
is_cue_sign b = is_ascii_digit b || b == 46

-- the cue at the front of a text, and what follows it
unfoldable pub cue_at : List ℕ → Option (List ℕ × List ℕ)
cue_at text =
    if is_cue_number (take (end_of is_cue_sign text) text)
    then Some (take (end_of is_cue_sign text) text, drop (end_of is_cue_sign text) text) else None

-- the device at the front of a text, and what follows it
unfoldable pub device_at : List ℕ → Option (ℕ × List ℕ)
device_at text = below 256 (number_at text).0 >>= λ n. device_of_byte n >>= λ d. Some (d, (number_at text).1)
