use Rattle.std.proofs.Common.{◌≡◌, drop}
use Rattle.cue_report.specs.Summary.{tallies, tallies_from}
use Rattle.cue_report.proofs.summary.tallies.Given as goal

-- the attempts that are left are still to be counted
abbrev pub invariant-loop-number : goal.invariant-loop-number
invariant-loop-number l =
    tallies_from l.names l.number (drop l.number l.attempts) l.tallies.items ≡ tallies l.names l.attempts
