use Rattle.std.proofs.Common.{arith}
use Rattle.cue_pattern.proofs.LaneLemmas.{many-reaches}
use Rattle.cue_pattern.proofs.lane_steps.step_many.Goals as goal

pub returns : goal.returns
returns c = λ j text rest short h.
    many-reaches j text rest c.args.reached.now c.loop-k.reached short h
    (λ k l. c.loop-k.invariant.moved k (omega arith) l) c.loop-k.invariant.past
