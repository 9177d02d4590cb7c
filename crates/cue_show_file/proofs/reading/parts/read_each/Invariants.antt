use Rattle.std.proofs.Common.{◌≡◌, drop}
use Rattle.toml.specs.View.{items_view}
use Rattle.cue_show_file.specs.Reading.{if_clean, then_more}
use Rattle.cue_show_file.specs.Said.{each_said, part_said}
use Rattle.cue_show_file.proofs.reading.parts.read_each.Given as goal

-- what was read, and then what the values say that are left, is all
abbrev pub invariant-loop-value : goal.invariant-loop-value
invariant-loop-value l =
    if_clean l.findings (then_more l.parts (each_said part_said (items_view (drop l.value-index l.values))))
    ≡ if_clean l.fn.findings (each_said part_said (items_view l.values))
