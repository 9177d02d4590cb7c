use Rattle.std.proofs.Common.{◌≡◌, map, take}
use Rattle.serde_json.specs.View.{view}
use Rattle.cue_page.specs.Ends.{told_data}
use Rattle.cue_page.proofs.board.ends.past_value.Given as goal

-- those so far were put there
abbrev pub invariant-loop-told : goal.invariant-loop-told
invariant-loop-told l = map view l.values.items ≡ map told_data (take l.told-index l.past)
