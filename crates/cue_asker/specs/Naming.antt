-- The names by which askers say who they are.
use Rattle.std.specs.Prelude.{ℕ, Bool, ◌&&◌, ◌||◌, List, length, nat_eq, nat_le}
use Rattle.std.specs.List.{list_all}

-- a to z, a digit, or `-`
abbrev pub is_sign : ℕ → Bool
is_sign b = (nat_le 97 b && nat_le b 122) || ((nat_le 48 b && nat_le b 57) || nat_eq b 45)

-- 1 to 16
abbrev pub has_length : List ℕ → Bool
has_length text = nat_le 1 (length text) && nat_le (length text) 16

-- 1 to 16 such signs
abbrev pub is_name : List ℕ → Bool
is_name text = has_length text && list_all is_sign text
