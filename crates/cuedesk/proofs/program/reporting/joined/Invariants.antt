use Rattle.std.proofs.Common.{◌≡◌, string_bytes, take}
use Rattle.cuedesk.specs.Reporting.{joined}
use Rattle.cuedesk.proofs.program.reporting.joined.Given as goal

-- the text has the lines so far
abbrev pub invariant-loop-line : goal.invariant-loop-line
invariant-loop-line l = string_bytes l.text ≡ joined (take l.line-index l.lines)
