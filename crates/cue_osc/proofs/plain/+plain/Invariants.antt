use Rattle.std.proofs.Common.{◌≡◌, map, drop}
use Rattle.cue_osc.specs.Content.{view, contents_of}
use Rattle.cue_osc.specs.Plain.{are_plain}
use Rattle.cue_osc.proofs.plain.+plain.Given as goal

abbrev pub invariant-all_plain-loop-item : goal.invariant-all_plain-loop-item
invariant-all_plain-loop-item l = are_plain l.depth (contents_of (map view (drop l.item-index l.items))) ≡ are_plain
    l.depth (contents_of (map view l.items))
