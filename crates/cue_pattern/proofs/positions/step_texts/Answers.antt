use Rattle.std.proofs.Common.{arith}
use Rattle.cue_pattern.proofs.PositionsLemmas.{Tells-texts}
use Rattle.cue_pattern.proofs.positions.step_texts.Goals as goal

pub returns : goal.returns
returns c = λ rest h. Tells-texts c.args.texts.now rest c.args.text.now c.args.reached.now c.loop-i.reached h
    c.loop-i.invariant.same_length (λ k l. c.loop-i.invariant.moved k (omega arith))
