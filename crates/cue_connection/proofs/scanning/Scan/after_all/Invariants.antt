use Rattle.std.proofs.Common.{◌≡◌, ◌+◌, drop}
use Rattle.cue_connection.specs.Scanning.{after_all}
use Rattle.cue_connection.proofs.scanning.Scan.after_all.Given as goal

-- what is left of the bytes leads to the same
abbrev pub invariant-loop-at : goal.invariant-loop-at
invariant-loop-at l = after_all l.scan (l.before + l.at) (drop l.at l.bytes) ≡ after_all l.fn.self l.before l.bytes
