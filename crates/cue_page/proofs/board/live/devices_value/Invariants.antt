use Rattle.std.proofs.Common.{◌≡◌, map, take}
use Rattle.serde_json.specs.View.{view}
use Rattle.cue_page.specs.Live.{device_data}
use Rattle.cue_page.proofs.board.live.devices_value.Given as goal

-- those so far were put there
abbrev pub invariant-loop-answer : goal.invariant-loop-answer
invariant-loop-answer l = map view l.devices.items ≡ map device_data (take l.answer-index l.answers)
