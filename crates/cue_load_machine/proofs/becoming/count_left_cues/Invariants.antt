use Rattle.std.proofs.Common.{◌≡◌}
use Rattle.cue_load_machine.specs.Counts.{with_left_cues}
use Rattle.cue_load_machine.proofs.becoming.count_left_cues.Given as goal

-- with what is left, all are counted
abbrev pub invariant-loop-cue : goal.invariant-loop-cue
invariant-loop-cue l = with_left_cues l.file l.cue-iterator l.counted ≡ with_left_cues l.file l.stored.cues l.fn.counted
