use Rattle.std.proofs.Common.{◌≡◌, map, option_map, take}
use Rattle.serde_json.specs.View.{view}
use Rattle.cue_page.specs.Whereabouts.{difference_data}
use Rattle.cue_page.proofs.board.whereabouts.each_value.Given as goal

-- those so far were put there
abbrev pub invariant-loop-difference : goal.invariant-loop-difference
invariant-loop-difference l =
    map view l.values.items
    ≡ map (difference_data (option_map (λ show. show.now) l.show) l.companions) (take l.difference-index l.differences)
