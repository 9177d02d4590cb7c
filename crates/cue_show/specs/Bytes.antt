-- Bytes as a list of numbers.
use Rattle.std.specs.Prelude.{ℕ, Bool, List, nat_le}
use Rattle.std.specs.List.{list_all}

-- each number is a byte
abbrev pub are_bytes : List ℕ → Bool
are_bytes bytes = list_all (λ b. nat_le b 255) bytes
