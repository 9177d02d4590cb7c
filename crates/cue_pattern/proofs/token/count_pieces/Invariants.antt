use Rattle.std.proofs.Common.{◌≡◌, ◌+◌, ◌≤◌, length}
use Rattle.std.specs.Option.{option_map}
use Rattle.cue_pattern.specs.Reading.{pieces_after}
use Rattle.cue_pattern.proofs.token.count_pieces.Given as goal

abbrev pub invariant-loop-rest : goal.invariant-loop-rest
invariant-loop-rest l = record {
  few : l.count + length l.rest ≤ length l.text;
  all : option_map (λ ps. l.count + length ps) (pieces_after 0 l.rest) ≡ option_map length (pieces_after 0 l.text);
}

abbrev pub decreases-loop-rest : goal.decreases-loop-rest
decreases-loop-rest l = length l.rest
