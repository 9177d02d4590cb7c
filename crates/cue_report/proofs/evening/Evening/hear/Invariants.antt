use Rattle.cue_report.specs.Picture.{Hears, picture}
use Rattle.cue_report.proofs.evening.Evening.hear.Given as goal

-- the pieces so far were heard
abbrev pub invariant-loop-place : goal.invariant-loop-place
invariant-loop-place l = Hears (picture l.fn.self.attempts) (picture l.self.attempts)
