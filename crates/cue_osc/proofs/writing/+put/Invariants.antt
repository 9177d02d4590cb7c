use Rattle.std.proofs.Common.{◌≡◌, ◌≤◌, ◌++◌, drop, map}
use Rattle.cue_osc.specs.Content.{view, contents_of}
use Rattle.cue_osc.specs.Writing.{elements_text, AllInRange}
use Rattle.cue_osc.proofs.RoomLemmas.{items_len}
use Rattle.cue_osc.proofs.writing.+put.Given as goal
use Rattle.cue_osc.specs.declared.limits.TheConstants.{MAX_LEN}

abbrev pub invariant-put_elements-loop-item : goal.invariant-put_elements-loop-item
invariant-put_elements-loop-item l = record {
  written : l.out.items ++ elements_text (contents_of (map view (drop l.item-index l.items))) ≡ l.fn.out.items
      ++ elements_text (contents_of (map view l.items));
  in_range : AllInRange (contents_of (map view (drop l.item-index l.items)))
      → AllInRange (contents_of (map view l.items));
  short : items_len (drop l.item-index l.items) ≤ MAX_LEN;
}
