use Rattle.std.proofs.Common.{◌≡◌, ◌++◌, drop, map}
use Rattle.cue_relay_machine.specs.Steps.{silences_given}
use Rattle.cue_relay_machine.specs.Texts.{after_time_of}
use Rattle.cue_relay_machine.proofs.machine.push_silences.Given as goal

-- what was said and kept of those before, and of those that are left, is of all
abbrev pub invariant-loop-one : goal.invariant-loop-one
invariant-loop-one l = record {
  given : l.out ++ silences_given l.date l.now (drop l.one-index l.known)
      ≡ l.fn.out ++ silences_given l.date l.now l.known;
  after : l.after.items ++ map (after_time_of l.now) (drop l.one-index l.known)
      ≡ map (after_time_of l.now) l.known;
}
