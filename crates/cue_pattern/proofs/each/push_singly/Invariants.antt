use Rattle.std.proofs.Common.{◌≡◌, ◌++◌, drop, map}
use Rattle.cue_pattern.specs.Matching.{part_matches}
use Rattle.cue_pattern.proofs.each.push_singly.Given as goal

-- what was found, and what the other names give, is all
abbrev pub invariant-loop-name : goal.invariant-loop-name
invariant-loop-name l =
    l.matched.items ++ map (λ name. part_matches l.part name.now) (drop l.name-index l.names)
    ≡ l.initial.matched.items ++ map (λ name. part_matches l.part name.now) l.names
