use Rattle.std.proofs.Common.{◌≡◌, ◌++◌, map, drop}
use Rattle.cue_osc.specs.Content.{view, contents_of}
use Rattle.cue_osc.specs.Walking.{all_leaves, content_at}
use Rattle.cue_osc.proofs.walking.+collect.Given as goal

abbrev pub invariant-collect_all-loop-item : goal.invariant-collect_all-loop-item
invariant-collect_all-loop-item l =
    map content_at l.found.items ++ all_leaves (contents_of (map view (drop l.item-index l.items))) ≡ map content_at
    l.fn.found.items ++ all_leaves (contents_of (map view l.items))
