use Rattle.cue_pattern.proofs.PositionsLemmas.{bytewise}
use Rattle.cue_pattern.proofs.positions.step.Goals as goal

pub returns-in-Many : goal.returns-in-Many
returns-in-Many c = rw c.in-Many.is c.step_many.ensures

pub returns-in-Among : goal.returns-in-Among
returns-in-Among c = rw c.in-Among.is c.step_texts.ensures

pub returns-in-One : goal.returns-in-One
returns-in-One c = λ rest h. rw (bytewise c.args.piece.now c.in-One.is rest) (c.step_byte.ensures rest h)
