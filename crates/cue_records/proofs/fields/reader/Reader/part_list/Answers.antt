use Rattle.std.proofs.lemmas.Result.{err_from_is_err_and}
use Rattle.cue_records.specs.Reading.{list_at, part_at}
use Rattle.cue_records.proofs.CountedLemmas.{goes_on, ends, is_done}
use Rattle.cue_records.proofs.fields.reader.Reader.part_list.Goals as goal

pub returns-in_err-part : goal.returns-in_err-part
returns-in_err-part c =
    let p = err_from_is_err_and c.from_residual.result c.from_residual.ensures.1 in
    rw (p.1, p.2) (ends (part_at c.args.form) c.in_err-part.field-0.0 c.loop.parts c.args.count c.loop.counter
    c.loop.self.rest.now (list_at (part_at c.args.form) c.args.count c.args.self.now.rest.now) c.loop-test.true
    c.in_err-part.ensures c.loop.invariant)

pub loop-preserved : goal.loop-preserved
loop-preserved c =
    rw c.in_ok-push.ensures.ok (goes_on (part_at c.args.form) c.loop.parts c.args.count c.loop.counter
    c.loop.self.rest.now c.in_ok-part.part c.part.new.self.rest.now
    (list_at (part_at c.args.form) c.args.count c.args.self.now.rest.now) c.loop-test.true c.in_ok-part.ensures
    c.loop.invariant)

pub returns : goal.returns
returns c = is_done (part_at c.args.form) c.loop.parts c.args.count c.loop.counter c.loop.self.rest.now
    (list_at (part_at c.args.form) c.args.count c.args.self.now.rest.now) c.loop-test.false c.loop.invariant
