use Rattle.std.proofs.Common.{◌≡◌, ◌++◌, drop, map}
use Rattle.cue_relay_machine.specs.Texts.{unknown}
use Rattle.cue_relay_machine.proofs.known.all_known.Given as goal

-- what was put there, and what is left, are all
abbrev pub invariant-loop-route : goal.invariant-loop-route
invariant-loop-route l = l.known.items ++ map unknown (drop l.route-index l.routes) ≡ map unknown l.routes
