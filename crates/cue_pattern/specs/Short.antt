-- Texts that are matched without memory.
use Rattle.std.specs.Prelude.{ℕ, Bool, true, nat_le, List, length, Option, None, Some}
use Rattle.std.specs.List.{list_all}
use Rattle.cue_pattern.specs.declared.limits.TheConstants.{MAX_SHORT}

-- it has at most as many bytes as are matched without memory
abbrev pub is_short : List ℕ → Bool
is_short t = nat_le (length t) MAX_SHORT

-- each part of an address is short, if it is one
abbrev pub are_short : Option (List (List ℕ)) → Bool
are_short None = true
are_short (Some ts) = list_all is_short ts
