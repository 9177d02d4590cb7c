use Rattle.std.proofs.Common.{string_bytes}
use Rattle.cue_report.specs.Telling.{Grows}
use Rattle.cue_report.proofs.sentences.devices.push_devices.Given as goal

-- what stood there stays
abbrev pub invariant-loop-course : goal.invariant-loop-course
invariant-loop-course l = Grows (string_bytes l.fn.text) (string_bytes l.text)
