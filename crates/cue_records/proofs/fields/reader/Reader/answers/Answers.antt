use Rattle.std.proofs.lemmas.Result.{err_from_is_err_and}
use Rattle.cue_records.specs.StateReading.{answers_at}
use Rattle.cue_records.proofs.AnsweredLemmas.{answers_go_on, answers_end, answers_done}
use Rattle.cue_records.proofs.fields.reader.Reader.answers.Goals as goal

pub returns-in_err-answer : goal.returns-in_err-answer
returns-in_err-answer c =
    let p = err_from_is_err_and c.from_residual.result c.from_residual.ensures.1 in
    rw (p.1, p.2) (answers_end c.in_err-answer.field-0.0 c.loop-part.answers.items c.args.parts.now
    c.loop-part.part-index c.part-item.result c.loop-part.self.rest.now
    (answers_at c.args.parts.now c.args.self.now.rest.now) c.loop-part-test.true c.part-item.is
    c.in_err-answer.ensures c.loop-part.invariant)

pub loop-part-preserved : goal.loop-part-preserved
loop-part-preserved c =
    rw c.in_ok-push.ensures.items
    (answers_go_on c.loop-part.answers.items c.args.parts.now c.loop-part.part-index c.part-item.result
    c.loop-part.self.rest.now c.in_ok-answer.answer c.one_answer.new.self.rest.now
    (answers_at c.args.parts.now c.args.self.now.rest.now) c.loop-part-test.true c.part-item.is
    c.in_ok-answer.ensures c.loop-part.invariant)

pub returns : goal.returns
returns c = rw c.of.ensures (answers_done c.loop-part.answers.items c.args.parts.now c.loop-part.part-index
    c.loop-part.self.rest.now (answers_at c.args.parts.now c.args.self.now.rest.now) c.loop-part-test.false
    c.loop-part.invariant)
