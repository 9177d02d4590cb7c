use Rattle.std.proofs.Common.{◌≡◌, ◌++◌, map}
use Rattle.std.specs.Map.{keys_of}
use Rattle.cue_operator.proofs.matching.cue_names.Given as goal

-- the numbers so far, and those of the other cues, are all
abbrev pub invariant-loop-cue : goal.invariant-loop-cue
invariant-loop-cue l = map (λ name. name.now) l.names.items ++ keys_of l.cue-iterator ≡ keys_of l.show.cues
