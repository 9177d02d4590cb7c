use Rattle.std.proofs.Common.{arith}
use Rattle.cue_pattern.proofs.PositionsLemmas.{Tells-start}
use Rattle.cue_pattern.proofs.positions.start_at_end.Goals as goal

pub returns : goal.returns
returns c = Tells-start c.args.text.now c.loop-i.reached (omega arith) (λ k l. c.loop-i.invariant k (omega arith))
