use Rattle.std.proofs.Common.{◌≡◌, length}
use Rattle.cue_report.proofs.sentences.devices.courses_words.Given as goal

-- the devices so far have their lines
abbrev pub invariant-loop-course : goal.invariant-loop-course
invariant-loop-course l = length l.all.items ≡ l.course-index
