use Rattle.std.proofs.Common.{◌≡◌}
use Rattle.cue_connection.specs.Stages.{AsksOnce}
use Rattle.cue_web.proofs.wire.Wire.write_on.Given as goal

-- it does not ask again, and what it said stays
abbrev pub invariant-loop : goal.invariant-loop
invariant-loop l = record {
  once : AsksOnce l.fn.self.connection.stage l.self.connection.stage;
  input : l.self.connection.input ≡ l.fn.self.connection.input;
}
