use Rattle.std.proofs.Common.{◌≡◌, length, take, drop}
use Rattle.cue_pattern.specs.Matching.{part_matches}
use Rattle.cue_pattern.specs.Steps.{Tells}
use Rattle.cue_pattern.proofs.piece.Part.matches_by.Given as goal

abbrev pub invariant-loop-rest : goal.invariant-loop-rest
invariant-loop-rest l = record {
  before : l.rest ≡ take (length l.rest) l.self;
  told : Tells (part_matches (drop (length l.rest) l.self)) l.text l.reached;
}

abbrev pub decreases-loop-rest : goal.decreases-loop-rest
decreases-loop-rest l = length l.rest
