use Rattle.std.proofs.Common.{◌≡◌, ◌++◌, take}
use Rattle.std.specs.List.{flat_map}
use Rattle.cue_evening.specs.LinesOf.{next_text}
use Rattle.cue_evening.proofs.reasons.put_others.Given as goal

abbrev pub invariant-loop-attempt : goal.invariant-loop-attempt
invariant-loop-attempt l = l.list.items ≡ l.fn.list.items ++ flat_map next_text (take l.attempt-index l.others)
