use Rattle.std.proofs.Common.{◌≡◌, ◌++◌, drop, IsTrue}
use Rattle.std.specs.List.{flat_map, list_all}
use Rattle.cue_show.specs.Parts.{is_part}
use Rattle.cue_records.specs.Fields.{part_text}
use Rattle.cue_records.proofs.fields.writing.put_part_list.Given as goal

-- what was written, and the parts that are left, are all
abbrev pub invariant-loop-part : goal.invariant-loop-part
invariant-loop-part l = record {
  written : l.out.items ++ flat_map (part_text l.form) (drop l.part-index l.parts) ≡ l.fn.out.items ++ flat_map
      (part_text l.form) l.parts;
  fit : IsTrue (list_all is_part (drop l.part-index l.parts));
}
