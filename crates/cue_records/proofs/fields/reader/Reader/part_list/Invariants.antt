use Rattle.std.proofs.Common.{◌≡◌, ◌-◌}
use Rattle.cue_records.specs.Reading.{list_at, part_at}
use Rattle.cue_records.proofs.CountedLemmas.{with_front}
use Rattle.cue_records.proofs.fields.reader.Reader.part_list.Given as goal

-- what was read, and the parts that are left, are all
abbrev pub invariant-loop : goal.invariant-loop
invariant-loop l = with_front l.parts (list_at (part_at l.form) (l.count - l.counter) l.self.rest.now) ≡ list_at
    (part_at l.form) l.count l.fn.self.rest.now
