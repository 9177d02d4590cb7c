use Rattle.std.proofs.Common.{◌≡◌, ◌+◌, ◌≤◌, length, drop, min}
use Rattle.std.specs.List.{flat_map}
use Rattle.cue_records.specs.Fields.{part_text}
use Rattle.cue_records.proofs.fields.length.part_list_len.Given as goal

-- what was counted, and the parts that are left, are all
abbrev pub invariant-loop-part : goal.invariant-loop-part
invariant-loop-part l = record {
  counted : min (l.len + length (flat_map (part_text l.form) (drop l.part-index l.parts))) 18446744073709551615 ≡ min
      (length (flat_map (part_text l.form) l.parts)) 18446744073709551615;
  fits : l.len ≤ 18446744073709551615;
}
