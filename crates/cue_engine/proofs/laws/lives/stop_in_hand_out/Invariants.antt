use Rattle.std.proofs.Common.{◌≡◌, ℕ}
use Rattle.cue_engine.specs.Wires.{HandedSoFar}
use Rattle.cue_engine.specs.Observed.{keeper_of, queue_of}
use Rattle.cue_engine.proofs.laws.lives.stop_in_hand_out.Given as goal

abbrev pub invariant-loop-most : goal.invariant-loop-most
invariant-loop-most g l = record {
  keeper : keeper_of l.engine ≡ keeper_of l.fn.engine;
  so_far : (n : ℕ) × HandedSoFar (g.W.Wire.told l.fn.wire) (queue_of l.fn.engine) (queue_of l.engine) n
      (g.W.Wire.told l.wire);
}
