use Rattle.std.proofs.Common.{◌≡◌}
use Rattle.std.specs.Vec.{vec_len}
use Rattle.cue_edge_run.proofs.addresses.bind.Given as goal

-- one for each of those before
abbrev pub invariant-loop-address : goal.invariant-loop-address
invariant-loop-address g l = vec_len l.sockets ≡ l.address-index
