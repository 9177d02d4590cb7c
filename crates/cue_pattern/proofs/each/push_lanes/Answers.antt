use Rattle.std.proofs.Common.{◌∙◌, arith}
use Rattle.cue_pattern.specs.Matching.{part_matches}
use Rattle.cue_pattern.proofs.LaneTableLemmas.{push-more}
use Rattle.cue_pattern.proofs.each.push_lanes.Goals as goal

pub loop-lane-preserved : goal.loop-lane-preserved
loop-lane-preserved c =
    push-more (λ name. name.now) (part_matches c.args.part.now) c.args.names.now c.loop-lane.lane
    c.loop-lane.matched.items _ c.push.new.self.items c.is_in_lane.result (omega arith)
    (c.is_in_lane.ensures ∙ c.requires.matching c.loop-lane.lane (omega arith)) c.loop-lane.invariant
    c.in_ok-push.ensures.items
