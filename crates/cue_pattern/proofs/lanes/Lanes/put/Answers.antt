use Rattle.std.proofs.Common.{◌∙◌, ◌+◌, ◌*◌, arith}
use Rattle.cue_pattern.proofs.LaneTableLemmas.{put-here, put-others, name-below}
use Rattle.cue_pattern.proofs.lanes.Lanes.put.Goals as goal

pub loop-k-preserved : goal.loop-k-preserved
loop-k-preserved c =
    let letters = c.loop-k.self.letters in
    let below = name-below c.args.name.now c.loop-k.k (omega arith) c.requires.known in
    let cell = c.from.result * 17 + c.loop-k.k in record {
      here = put-here c.args.lane c.args.name.now letters c.loop-k.k cell c.with_lane.result (omega arith)
          c.requires.short c.requires.known (omega (arith, c.from.ensures)) (omega (arith, c.from.ensures, below)) c.with_lane.ensures.here
          c.loop-k.invariant.here;
      others = λ j i apart. put-others j letters cell c.with_lane.result (omega (arith, c.from.ensures, below))
          (c.with_lane.ensures.others j apart) i ∙ c.loop-k.invariant.others j i apart;
      ends = c.loop-k.invariant.ends;
    }
