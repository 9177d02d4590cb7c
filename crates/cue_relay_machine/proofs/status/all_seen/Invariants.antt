use Rattle.std.proofs.Common.{◌≡◌, ◌++◌, drop, map}
use Rattle.cue_relay_machine.specs.Texts.{seen_of}
use Rattle.cue_relay_machine.proofs.status.all_seen.Given as goal

-- what was put there, and what is left, are all
abbrev pub invariant-loop-one : goal.invariant-loop-one
invariant-loop-one l = l.seen.items ++ map seen_of (drop l.one-index l.known) ≡ map seen_of l.known
