use Rattle.std.proofs.Common.{arith}
use Rattle.cue_pattern.proofs.LaneLemmas.{join-reaches}
use Rattle.cue_pattern.proofs.lane_steps.join.Goals as goal

pub returns : goal.returns
returns c = λ j name f g short h i.
    join-reaches j name f g c.args.reached.now c.args.other.now c.loop-k.reached short h i
    (λ k l. c.loop-k.invariant.moved k (omega arith)) (λ k l. c.loop-k.invariant.ahead k (omega arith))
