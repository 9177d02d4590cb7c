use Rattle.std.proofs.Common.{◌≡◌, drop}
use Rattle.cue_report.specs.Running.{played_of}
use Rattle.cue_report.proofs.running.played_of.Given as goal

-- what was played so far, with the acts that are left, is all
abbrev pub invariant-loop-act : goal.invariant-loop-act
invariant-loop-act l = played_of l.played (drop l.act-index l.acts) ≡ played_of 0 l.acts
