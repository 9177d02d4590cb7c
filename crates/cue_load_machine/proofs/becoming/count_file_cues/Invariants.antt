use Rattle.std.proofs.Common.{◌≡◌}
use Rattle.cue_load_machine.specs.Counts.{with_cues}
use Rattle.cue_load_machine.proofs.becoming.count_file_cues.Given as goal

-- with what is left, all are counted
abbrev pub invariant-loop-cue : goal.invariant-loop-cue
invariant-loop-cue l = with_cues l.stored l.cue-iterator l.counted ≡ with_cues l.stored l.file.cues l.fn.counted
