use Rattle.std.proofs.Common.{◌≡◌, drop}
use Rattle.std.specs.Prelude.{vec_capacity}
use Rattle.cue_web.proofs.connections.make_room.Given as goal

-- so many have given way
abbrev pub invariant-loop : goal.invariant-loop
invariant-loop l =
    record {
      gone : l.here.items ≡ drop l.counter l.fn.here.items;
      room : vec_capacity l.here ≡ vec_capacity l.fn.here;
    }
