-- Lists of device numbers.
use Rattle.std.specs.Prelude.{ℕ, Bool, not, List, map, nat_eq}
use Rattle.std.specs.List.{list_any, list_all}
use Rattle.cue_show.specs.Distinct.{are_distinct}
use Rattle.cue_show.specs.declared.part.Part.{Part}

-- the number is one of the list
abbrev pub is_among : ℕ → List ℕ → Bool
is_among d ds = list_any (λ e. nat_eq e d) ds

-- no number stands twice
abbrev pub distinct : List ℕ → Bool
distinct ds = are_distinct nat_eq ds

-- no number stands in both
abbrev pub disjoint : List ℕ → List ℕ → Bool
disjoint ds es = list_all (λ d. not (is_among d es)) ds

-- the devices of the parts, in order
abbrev pub devices_in : List Part → List ℕ
devices_in parts = map (λ p. p.device) parts
