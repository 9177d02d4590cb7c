use Rattle.std.proofs.Common.{arith}
use Rattle.cue_pattern.proofs.LaneTableLemmas.{with-here, with-other}
use Rattle.cue_pattern.proofs.lanes.with_lane.Goals as goal

pub returns-clause-here : goal.returns-clause-here
returns-clause-here c = with-here c.args.word c.args.at (omega arith)

pub returns-clause-others : goal.returns-clause-others
returns-clause-others c = λ j apart. with-other c.args.word c.args.at j (omega arith) apart
