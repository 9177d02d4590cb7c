-- Reading two areas, by functions that compute.
use Rattle.std.specs.Prelude.{ℕ, Bool, true, false, if◌then◌else◌, List, [], ◌∷◌, Option, None, Some}
use Rattle.std.specs.Prelude.{nat_lt, ◌==◌}
use Rattle.cue_log.specs.Area.{Area}
use Rattle.cue_log.specs.Reading.{read_area}

-- no open head gate
abbrev pub is_absent : List ℕ → Bool
is_absent [] = true
is_absent (gate ∷ []) = true
is_absent (gate ∷ byte ∷ bytes) = if gate == 1 then false else true

-- the newer of two areas; none if both have one generation
abbrev pub newer : Area → Area → Option Area
newer a b =
    if nat_lt b.generation a.generation then Some a
    else if nat_lt a.generation b.generation then Some b
    else None

-- the only area, if the other bytes are absent
abbrev pub only : Bool → Option Area → Option Area
only absent area = if absent then area else None

-- the one that counts of what was read from each
abbrev pub newer_of : List ℕ → List ℕ → Option Area → Option Area → Option Area
newer_of x y (Some a) (Some b) = newer a b
newer_of x y (Some a) None = only (is_absent y) (Some a)
newer_of x y None (Some b) = only (is_absent x) (Some b)
newer_of x y None None = None

-- the area that a pair reads as, if there is one
unfoldable pub pair_in : List ℕ → List ℕ → Option Area
pair_in x y = newer_of x y (read_area x) (read_area y)
