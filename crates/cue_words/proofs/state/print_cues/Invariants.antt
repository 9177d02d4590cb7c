use Rattle.std.proofs.Common.{◌≡◌, ◌++◌}
use Rattle.std.specs.List.{flat_map}
use Rattle.cue_words.specs.ShowText.{cue_line}
use Rattle.cue_words.proofs.state.print_cues.Given as goal

-- what was printed, and the cues that are left, are all
abbrev pub invariant-loop-cue : goal.invariant-loop-cue
invariant-loop-cue l = l.text.items ++ flat_map cue_line l.cue-iterator ≡ l.fn.text.items ++ flat_map cue_line
    l.show.cues
