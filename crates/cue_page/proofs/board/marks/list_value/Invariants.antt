use Rattle.std.proofs.Common.{◌≡◌, map, take}
use Rattle.serde_json.specs.View.{view}
use Rattle.cue_page.specs.Marks.{mark_data}
use Rattle.cue_page.proofs.board.marks.list_value.Given as goal

-- those so far were put there
abbrev pub invariant-loop-mark : goal.invariant-loop-mark
invariant-loop-mark l = map view l.values.items ≡ map mark_data (take l.mark-index l.all)
