use Rattle.std.proofs.Common.{◌+◌, refl, ◌∙◌}
use Rattle.cue_engine.specs.Observed.{queue_of}
use Rattle.cue_engine.proofs.StoppedLemmas.{stops_after_some}
use Rattle.cue_engine.proofs.WireLemmas.{handed_none, part_more}
use Rattle.cue_engine.proofs.laws.lives.stop_in_hand_out.Goals as goal

pub loop-most-init : goal.loop-most-init
loop-most-init g c = record {
  keeper = refl;
  so_far = (0, handed_none (g.W.Wire.told c.args.wire.now) (queue_of c.args.engine));
}

pub loop-most-preserved : goal.loop-most-preserved
loop-most-preserved g c =
    let part = c.hand_out_first-refused in
    let before = c.loop-most.invariant.so_far in
    record {
      keeper = part.ensures.keeper ∙ c.loop-most.invariant.keeper;
      so_far = (before.0 + part.result, part_more _ part.ensures.left before.1 part.ensures.handed);
    }

pub returns : goal.returns
returns g c = record {
  stopped = λ sound life runs. stops_after_some g.D.Disk.held c.close.result.0 c.close.result.1
      ((rw c.loop-most.invariant.keeper at c.close.ensures.stands) sound.0.0 sound.0.1 sound.1)
      c.loop-most.invariant.so_far.1 runs;
}
