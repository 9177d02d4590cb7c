use Rattle.std.proofs.Common.{◌≡◌, length}
use Rattle.cue_pattern.specs.Reading.{pieces_after}
use Rattle.cue_pattern.proofs.FrontLemmas.{with_front}
use Rattle.cue_pattern.proofs.piece.Part.read.Given as goal

abbrev pub invariant-loop-rest : goal.invariant-loop-rest
invariant-loop-rest l = with_front l.pieces.items (pieces_after 0 l.rest) ≡ pieces_after 0 l.text

abbrev pub decreases-loop-rest : goal.decreases-loop-rest
decreases-loop-rest l = length l.rest
