-- The fields of a head by their names, as RFC 9110 (section 5.1) compares them: in whatever case.
use Rattle.std.specs.Prelude.{ℕ, Bool, false, List, [], ◌∷◌, map, Option, None, Some, if◌then◌else◌}
use Rattle.std.specs.Char.{to_ascii_lowercase}
use Rattle.std.specs.List.{list_any}
use Rattle.cue_show.specs.Number.{same_text}

-- the same name, but for case
abbrev pub is_named : List ℕ → List ℕ → Bool
is_named name found = same_text (map to_ascii_lowercase found) (map to_ascii_lowercase name)

-- one of the fields has this name
abbrev pub has_field : List ℕ → List (List ℕ × List ℕ) → Bool
has_field name fields = list_any (λ f. is_named name f.0) fields

-- more than one of the fields has this name
abbrev pub has_many : List ℕ → List (List ℕ × List ℕ) → Bool
has_many name [] = false
has_many name (f ∷ fs) = if is_named name f.0 then has_field name fs else has_many name fs

-- the value of the field of this name; none if there is no such field, or more than one
abbrev pub only_value : List ℕ → List (List ℕ × List ℕ) → Option (List ℕ)
only_value name [] = None
only_value name (f ∷ fs) =
    if is_named name f.0 then (if has_field name fs then None else Some f.1) else only_value name fs
