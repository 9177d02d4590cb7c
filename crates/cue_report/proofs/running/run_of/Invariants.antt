use Rattle.std.proofs.Common.{◌≡◌, None, drop}
use Rattle.cue_report.specs.Running.{run_of}
use Rattle.cue_report.proofs.running.run_of.Given as goal

-- the run so far, with the attempts that are left, is that of all
abbrev pub invariant-loop-attempt : goal.invariant-loop-attempt
invariant-loop-attempt l = run_of l.run (drop l.attempt-index l.attempts) ≡ run_of None l.attempts
