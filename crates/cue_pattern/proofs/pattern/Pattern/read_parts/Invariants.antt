use Rattle.std.proofs.Common.{◌≡◌}
use Rattle.std.specs.Option.{option_copied}
use Rattle.cue_pattern.specs.Reading.{pieces_of, pattern_at}
use Rattle.cue_pattern.specs.Steps.{cut_left, left_len}
use Rattle.cue_pattern.proofs.FrontLemmas.{with_front}
use Rattle.cue_pattern.proofs.pattern.Pattern.read_parts.Given as goal

abbrev pub invariant-loop-left : goal.invariant-loop-left
invariant-loop-left l = with_front l.parts.items (pieces_of (cut_left 47 (option_copied l.left))) ≡ pattern_at l.bytes

abbrev pub decreases-loop-left : goal.decreases-loop-left
decreases-loop-left l = left_len (option_copied l.left)
