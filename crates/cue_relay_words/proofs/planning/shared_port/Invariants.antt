use Rattle.std.proofs.Common.{◌≡◌, drop}
use Rattle.cue_relay_words.specs.Planning.{shared_port}
use Rattle.cue_relay_words.proofs.planning.shared_port.Given as goal

-- the routes that are left share the first port that two of all have
abbrev pub invariant-loop-index : goal.invariant-loop-index
invariant-loop-index l = shared_port (drop l.index l.routes) ≡ shared_port l.routes
