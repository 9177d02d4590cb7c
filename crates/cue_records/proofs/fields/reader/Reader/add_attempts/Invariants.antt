use Rattle.std.proofs.Common.{◌≡◌, ◌-◌}
use Rattle.cue_records.specs.StateReading.{fold_at, attempt_step}
use Rattle.cue_records.proofs.fields.reader.Reader.add_attempts.Given as goal

-- the steps that are left give what all give
abbrev pub invariant-loop : goal.invariant-loop
invariant-loop l = fold_at (attempt_step l.show) (l.count - l.counter) l.live l.self.rest.now ≡ fold_at
    (attempt_step l.show) l.count l.fn.live l.fn.self.rest.now
