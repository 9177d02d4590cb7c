use Rattle.std.proofs.Common.{◌≡◌, ◌++◌}
use Rattle.std.specs.Map.{keys_of}
use Rattle.cue_station.proofs.showing.cues_of.Given as goal

-- what was put there, and the cues that are left, are all
abbrev pub invariant-loop-cue : goal.invariant-loop-cue
invariant-loop-cue l = l.cues.items ++ keys_of l.cue-iterator ≡ keys_of l.show.cues
