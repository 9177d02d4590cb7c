use Rattle.std.proofs.Common.{◌≡◌, ◌-◌}
use Rattle.cue_records.specs.StateReading.{fold_at, device_step}
use Rattle.cue_records.proofs.fields.reader.Reader.add_devices.Given as goal

-- the steps that are left give what all give
abbrev pub invariant-loop : goal.invariant-loop
invariant-loop l = fold_at device_step (l.count - l.counter) l.show l.self.rest.now ≡ fold_at device_step l.count
    l.fn.show l.fn.self.rest.now
