use Rattle.std.proofs.Common.{◌∙◌, ap}
use Rattle.cue_pattern.specs.Lanes.{lane}
use Rattle.cue_pattern.proofs.LaneLemmas.{lane-zero, zero-row}
use Rattle.cue_pattern.proofs.LaneTableLemmas.{zero-cells}
use Rattle.cue_pattern.proofs.lanes.Lanes.empty.Goals as goal

pub returns-clause-blank : goal.returns-clause-blank
returns-clause-blank c = λ j. record {
  letter = λ i. ap (lane j) (zero-cells 204 i) ∙ lane-zero j;
  end = λ i. ap (lane j) (zero-row i) ∙ lane-zero j;
}
