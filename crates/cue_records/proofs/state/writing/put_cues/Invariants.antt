use Rattle.std.proofs.Common.{◌≡◌, ◌++◌, IsTrue}
use Rattle.std.specs.List.{flat_map, list_all}
use Rattle.cue_show.specs.Show.{is_cue_of}
use Rattle.cue_records.specs.declared.parts_form.PartsForm.TheVariants.{Flagged}
use Rattle.cue_records.specs.Fields.{new_cue_text}
use Rattle.cue_records.proofs.state.writing.put_cues.Given as goal

-- what was written, and the cues that are left, are all
abbrev pub invariant-loop-cue : goal.invariant-loop-cue
invariant-loop-cue l = record {
  written : l.out.items ++ flat_map (new_cue_text Flagged) l.cue-iterator ≡ l.fn.out.items ++ flat_map
      (new_cue_text Flagged) l.show.cues;
  fit : IsTrue (list_all (is_cue_of l.show) l.cue-iterator);
}
