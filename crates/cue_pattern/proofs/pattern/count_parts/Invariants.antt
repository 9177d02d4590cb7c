use Rattle.std.proofs.Common.{◌≡◌, ◌+◌, ◌≤◌, length}
use Rattle.std.specs.Option.{option_copied, option_map}
use Rattle.cue_pattern.specs.Reading.{pieces_of, pattern_at}
use Rattle.cue_pattern.specs.Steps.{cut_left, left_len}
use Rattle.cue_pattern.proofs.pattern.count_parts.Given as goal

abbrev pub invariant-loop-left : goal.invariant-loop-left
invariant-loop-left l = record {
  few : l.count + left_len (option_copied l.left) ≤ length l.bytes;
  all : option_map (λ ps. l.count + length ps) (pieces_of (cut_left 47 (option_copied l.left))) ≡ option_map length
      (pattern_at l.bytes);
}

abbrev pub decreases-loop-left : goal.decreases-loop-left
decreases-loop-left l = left_len (option_copied l.left)
