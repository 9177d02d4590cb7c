use Rattle.std.proofs.lemmas.Result.{err_from_is_err_and}
use Rattle.cue_records.specs.StateReading.{fold_at, device_step}
use Rattle.cue_records.proofs.FoldedLemmas.{fold_goes_on, fold_ends, fold_done}
use Rattle.cue_records.proofs.fields.reader.Reader.add_devices.Goals as goal

pub returns-in_err-add_device : goal.returns-in_err-add_device
returns-in_err-add_device c =
    let p = err_from_is_err_and c.from_residual.result c.from_residual.ensures.1 in
    rw (p.1, p.2) (fold_ends device_step c.in_err-add_device.field-0.0 c.args.count c.loop.counter c.loop.show
    c.loop.self.rest.now (fold_at device_step c.args.count c.args.show.now c.args.self.now.rest.now)
    c.loop-test.true c.in_err-add_device.ensures c.loop.invariant)

pub loop-preserved : goal.loop-preserved
loop-preserved c =
    fold_goes_on device_step c.args.count c.loop.counter c.loop.show c.loop.self.rest.now c.add_device.new.show
    c.add_device.new.self.rest.now (fold_at device_step c.args.count c.args.show.now c.args.self.now.rest.now)
    c.loop-test.true c.in_ok-add_device.ensures c.loop.invariant

pub returns : goal.returns
returns c = fold_done device_step c.args.count c.loop.counter c.loop.show c.loop.self.rest.now
    (fold_at device_step c.args.count c.args.show.now c.args.self.now.rest.now) c.loop-test.false c.loop.invariant
