use Rattle.std.proofs.Common.{◌≡◌, map, drop}
use Rattle.cue_osc.specs.Content.{view, contents_of}
use Rattle.cue_osc.specs.Walking.{is_any_later}
use Rattle.cue_osc.proofs.+later.Given as goal

abbrev pub invariant-walking::any_later-loop-item : goal.invariant-walking::any_later-loop-item
invariant-walking::any_later-loop-item l = is_any_later l.now_ms (contents_of (map view (drop l.item-index l.items)))
    ≡ is_any_later l.now_ms (contents_of (map view l.items))
