use Rattle.std.proofs.Common.{arith}
use Rattle.std.proofs.lemmas.List.Edits.{map_over_more}
use Rattle.cue_exchange.specs.Steps.{with_change, answers_as}
use Rattle.cue_exchange.proofs.steps.put_answer.Goals as goal

pub loop-attempt-preserved : goal.loop-attempt-preserved
loop-attempt-preserved c =
    rw (c.answer_in.ensures, ← c.attempt-item.is)
    (map_over_more (with_change c.args.seq (answers_as c.args.device c.args.answer))
    c.deref_mut-attempt-items.result.now
    c.loop-attempt.attempt-items c.loop-attempt.attempt-index c.attempt-item.result
    (omega arith) c.loop-attempt.invariant c.attempt-item.is)
