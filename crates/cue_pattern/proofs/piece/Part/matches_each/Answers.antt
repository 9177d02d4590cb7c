use Rattle.std.proofs.Common.{arith}
use Rattle.cue_pattern.specs.Matching.{part_matches}
use Rattle.cue_pattern.proofs.LaneTableLemmas.{more-groups}
use Rattle.cue_pattern.proofs.piece.Part.matches_each.Goals as goal

pub loop-from-preserved : goal.loop-from-preserved
loop-from-preserved c = record {
  within = omega (arith, c.min.ensures);
  found = more-groups (λ name. part_matches c.args.self.now name.now) c.args.names.now c.loop-from.from c.min.result
      c.loop-from.matched.items c.push_group.new.matched.items c.loop-from.invariant.found c.in_ok-push_group.ensures;
}
