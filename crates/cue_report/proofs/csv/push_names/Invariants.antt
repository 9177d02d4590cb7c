use Rattle.std.proofs.Common.{◌≡◌, ◌++◌, ◌∷◌, string_bytes, take}
use Rattle.std.specs.List.{flat_map}
use Rattle.cue_report.proofs.csv.push_names.Given as goal

-- the names so far were put there
abbrev pub invariant-loop-name : goal.invariant-loop-name
invariant-loop-name l =
    string_bytes l.table
    ≡ string_bytes l.fn.table ++ flat_map (λ column. 44 ∷ column.1.now) (take l.name-index l.columns)
