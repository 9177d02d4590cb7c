use Rattle.std.proofs.Common.{arith}
use Rattle.cue_pattern.proofs.PositionsLemmas.{Tells-many}
use Rattle.cue_pattern.proofs.positions.step_many.Goals as goal

pub returns : goal.returns
returns c = λ rest h. Tells-many rest c.args.text.now c.args.reached.now c.loop-i.reached h (omega arith)
    (λ k l. c.loop-i.invariant.moved k (omega arith) l) c.loop-i.invariant.end
