use Rattle.std.proofs.Common.{◌≡◌, ◌++◌}
use Rattle.cue_loading.proofs.entries.cues_of.Given as goal

-- what was put there, and what is left, are all
abbrev pub invariant-loop-cue : goal.invariant-loop-cue
invariant-loop-cue l = l.cues.items ++ l.cue-iterator ≡ l.show.cues
