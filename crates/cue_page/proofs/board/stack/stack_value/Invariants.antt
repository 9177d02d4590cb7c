use Rattle.std.proofs.Common.{◌≡◌, map, take}
use Rattle.serde_json.specs.View.{view}
use Rattle.cue_page.specs.Stack.{number_data}
use Rattle.cue_page.proofs.board.stack.stack_value.Given as goal

-- those so far were put there
abbrev pub invariant-loop-cue : goal.invariant-loop-cue
invariant-loop-cue l = map view l.numbers.items ≡ map number_data (take l.cue-index l.cues)
