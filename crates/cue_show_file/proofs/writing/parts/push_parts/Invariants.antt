use Rattle.std.proofs.Common.{◌≡◌, ◌++◌, drop, string_bytes}
use Rattle.std.specs.List.{flat_map}
use Rattle.cue_show_file.specs.Written.{part_item}
use Rattle.cue_show_file.proofs.writing.parts.push_parts.Given as goal

-- what was written, and those that are left, are all
abbrev pub invariant-loop-part : goal.invariant-loop-part
invariant-loop-part l =
    string_bytes l.text ++ flat_map (part_item l.lines) (drop l.part-index l.parts)
    ≡ string_bytes l.fn.text ++ flat_map (part_item l.lines) l.parts
