use Rattle.std.proofs.lemmas.Result.{err_from_is_err_and}
use Rattle.cue_records.specs.StateReading.{fold_at, attempt_step}
use Rattle.cue_records.proofs.FoldedLemmas.{fold_goes_on, fold_ends, fold_done}
use Rattle.cue_records.proofs.fields.reader.Reader.add_attempts.Goals as goal

pub returns-in_err-add_attempt : goal.returns-in_err-add_attempt
returns-in_err-add_attempt c =
    let p = err_from_is_err_and c.from_residual.result c.from_residual.ensures.1 in
    rw (p.1, p.2) (fold_ends (attempt_step c.args.show.now) c.in_err-add_attempt.field-0.0 c.args.count c.loop.counter
    c.loop.live c.loop.self.rest.now (fold_at (attempt_step c.args.show.now) c.args.count c.args.live.now
    c.args.self.now.rest.now) c.loop-test.true c.in_err-add_attempt.ensures c.loop.invariant)

pub loop-preserved : goal.loop-preserved
loop-preserved c =
    fold_goes_on (attempt_step c.args.show.now) c.args.count c.loop.counter c.loop.live c.loop.self.rest.now
    c.add_attempt.new.live c.add_attempt.new.self.rest.now
    (fold_at (attempt_step c.args.show.now) c.args.count c.args.live.now c.args.self.now.rest.now) c.loop-test.true
    c.in_ok-add_attempt.ensures c.loop.invariant

pub returns : goal.returns
returns c = fold_done (attempt_step c.args.show.now) c.args.count c.loop.counter c.loop.live c.loop.self.rest.now
    (fold_at (attempt_step c.args.show.now) c.args.count c.args.live.now c.args.self.now.rest.now) c.loop-test.false
    c.loop.invariant
