use Rattle.std.proofs.Common.{◌≡◌, drop}
use Rattle.toml.specs.View.{items_view}
use Rattle.cue_show_file.specs.Reading.{cues_of, if_clean, then_more}
use Rattle.cue_show_file.specs.Said.{cue_said, each_said}
use Rattle.cue_show_file.proofs.reading.cues.read_each.Given as goal

-- what was read, and then what the values say that are left, is all
abbrev pub invariant-loop-index : goal.invariant-loop-index
invariant-loop-index l =
    if_clean l.findings (then_more (cues_of l.cues.items) (each_said cue_said (items_view (drop l.index l.values))))
    ≡ if_clean l.fn.findings (each_said cue_said (items_view l.values))
