use Rattle.std.specs.Prelude.{vec_capacity}
use Rattle.cue_web.proofs.AdmitLemmas.{ComeSoFar}
use Rattle.cue_web.proofs.connections.Connections.take_waiting.Given as goal

-- so many came
abbrev pub invariant-loop : goal.invariant-loop
invariant-loop l =
    ComeSoFar (vec_capacity l.fn.self.here) (vec_capacity l.self.here) l.fn.self.here.items l.self.here.items l.counter
