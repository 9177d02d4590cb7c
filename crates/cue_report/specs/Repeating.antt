-- Lines that stand in a log twice.
use Rattle.std.specs.Prelude.{ℕ, ◌*◌, ◌%◌, ◌^◌, Bool, List, bit_xor, nat_eq}
use Rattle.std.specs.List.{fold, list_any}

-- a number for a line, byte by byte
abbrev pub next_number : ℕ → ℕ → ℕ
next_number sum byte = bit_xor sum byte * 1099511628211 % 2 ^ 64

abbrev pub number_of : List ℕ → ℕ
number_of text = fold next_number 14695981039346656037 text

-- a line has the number of one of the last ones
abbrev pub knows : List ℕ → List ℕ → Bool
knows last text = list_any (λ n. nat_eq n (number_of text)) last
