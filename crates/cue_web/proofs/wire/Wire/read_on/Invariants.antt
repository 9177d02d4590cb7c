use Rattle.cue_connection.specs.Stages.{AsksOnce}
use Rattle.cue_web.specs.Serving.{IsDropped}
use Rattle.cue_web.proofs.wire.Wire.read_on.Given as goal

-- it does not ask again; and if it asks no more, what comes is dropped
abbrev pub invariant-loop : goal.invariant-loop
invariant-loop l = record {
  once : AsksOnce l.fn.self.connection.stage l.self.connection.stage;
  dropped : IsDropped l.fn.self.connection l.self.connection;
}
