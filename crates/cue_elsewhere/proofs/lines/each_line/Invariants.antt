use Rattle.std.proofs.Common.{◌≡◌, map, string_bytes, take}
use Rattle.std.specs.List.{flat_map}
use Rattle.cue_elsewhere.specs.Lines.{line_of}
use Rattle.cue_elsewhere.proofs.lines.each_line.Given as goal

-- the lines of the devices so far were put there
abbrev pub invariant-loop-difference : goal.invariant-loop-difference
invariant-loop-difference l =
    map string_bytes l.all.items ≡ flat_map (line_of l.names) (take l.difference-index l.differences)
