use Rattle.std.proofs.Common.{◌≡◌, ◌++◌}
use Rattle.std.specs.Option.{option_copied}
use Rattle.cue_pattern.specs.Reading.{cut}
use Rattle.cue_pattern.specs.Steps.{cut_left, left_len}
use Rattle.cue_pattern.proofs.texts.Texts.read.Given as goal

abbrev pub invariant-loop-left : goal.invariant-loop-left
invariant-loop-left l = l.items.items ++ cut_left 44 (option_copied l.left) ≡ cut 44 l.inside

abbrev pub decreases-loop-left : goal.decreases-loop-left
decreases-loop-left l = left_len (option_copied l.left)
