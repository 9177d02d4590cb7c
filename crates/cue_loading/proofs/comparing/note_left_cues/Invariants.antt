use Rattle.std.proofs.Common.{◌≡◌}
use Rattle.cue_loading.specs.Differences.{are_so}
use Rattle.cue_loading.proofs.comparing.note_left_cues.Given as goal

-- what was put there is so
abbrev pub invariant-loop-cue : goal.invariant-loop-cue
invariant-loop-cue l = are_so l.file l.stored l.found.items ≡ are_so l.file l.stored l.fn.found.items
