-- The bytes of a part that are plain text.
use Rattle.std.specs.Prelude.{ℕ, ◌==◌, Bool, not, ◌&&◌, if◌then◌else◌, List, length, Option, None, Some}
use Rattle.std.specs.Prelude.{nat_le}
use Rattle.std.specs.List.{list_all}

-- a sign of ASCII that is printed, no quote and no backslash
unfoldable pub is_plain_sign : ℕ → Bool
is_plain_sign b = (nat_le 32 b && nat_le b 126) && (not (b == 34) && not (b == 92))

-- one byte at least, and each such a sign
abbrev pub is_plain : List ℕ → Bool
is_plain bytes = not (length bytes == 0) && list_all is_plain_sign bytes

-- the bytes as a text, if they are plain text
abbrev pub plain_of : List ℕ → Option (List ℕ)
plain_of bytes = if is_plain bytes then Some bytes else None
