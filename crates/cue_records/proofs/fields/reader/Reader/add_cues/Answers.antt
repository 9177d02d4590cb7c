use Rattle.std.proofs.lemmas.Result.{err_from_is_err_and}
use Rattle.cue_records.specs.StateReading.{fold_at, cue_step}
use Rattle.cue_records.proofs.FoldedLemmas.{fold_goes_on, fold_ends, fold_done}
use Rattle.cue_records.proofs.fields.reader.Reader.add_cues.Goals as goal

pub returns-in_err-add_cue : goal.returns-in_err-add_cue
returns-in_err-add_cue c =
    let p = err_from_is_err_and c.from_residual.result c.from_residual.ensures.1 in
    rw (p.1, p.2) (fold_ends (cue_step c.args.form) c.in_err-add_cue.field-0.0 c.args.count c.loop.counter c.loop.show
    c.loop.self.rest.now (fold_at (cue_step c.args.form) c.args.count c.args.show.now c.args.self.now.rest.now)
    c.loop-test.true c.in_err-add_cue.ensures c.loop.invariant)

pub loop-preserved : goal.loop-preserved
loop-preserved c =
    fold_goes_on (cue_step c.args.form) c.args.count c.loop.counter c.loop.show c.loop.self.rest.now c.add_cue.new.show
    c.add_cue.new.self.rest.now
    (fold_at (cue_step c.args.form) c.args.count c.args.show.now c.args.self.now.rest.now) c.loop-test.true
    c.in_ok-add_cue.ensures c.loop.invariant

pub returns : goal.returns
returns c = fold_done (cue_step c.args.form) c.args.count c.loop.counter c.loop.show c.loop.self.rest.now
    (fold_at (cue_step c.args.form) c.args.count c.args.show.now c.args.self.now.rest.now) c.loop-test.false
    c.loop.invariant
