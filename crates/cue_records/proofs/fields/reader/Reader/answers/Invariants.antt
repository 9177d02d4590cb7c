use Rattle.std.proofs.Common.{◌≡◌, drop}
use Rattle.cue_records.specs.StateReading.{answers_at}
use Rattle.cue_records.proofs.CountedLemmas.{with_front}
use Rattle.cue_records.proofs.fields.reader.Reader.answers.Given as goal

-- what was read, and the answers of the parts that are left, are all
abbrev pub invariant-loop-part : goal.invariant-loop-part
invariant-loop-part l = with_front l.answers.items (answers_at (drop l.part-index l.parts) l.self.rest.now) ≡ answers_at
    l.parts l.fn.self.rest.now
