use Rattle.cue_log_lines.specs.declared.line.Line.TheVariants.{Recovered}
use Rattle.cue_report.specs.Picture.{Says, picture}
use Rattle.cue_report.proofs.evening.Evening.take_found.Given as goal

-- what the list says so far was taken
abbrev pub invariant-loop-said : goal.invariant-loop-said
invariant-loop-said l = Says l.at (Recovered l.list) (picture l.fn.self.attempts) (picture l.self.attempts)
