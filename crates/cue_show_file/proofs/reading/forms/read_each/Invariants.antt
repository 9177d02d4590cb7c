use Rattle.std.proofs.Common.{◌≡◌, ◌++◌, drop}
use Rattle.toml.specs.View.{items_view}
use Rattle.cue_show_file.specs.Seen.{forms_said}
use Rattle.cue_show_file.proofs.reading.forms.read_each.Given as goal

-- what was put there, and the forms of the values that are left, are all
abbrev pub invariant-loop-value : goal.invariant-loop-value
invariant-loop-value l =
    l.forms.items ++ forms_said (items_view (drop l.value-index l.values)) ≡ forms_said (items_view l.values)
