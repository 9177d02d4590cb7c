use Rattle.std.proofs.Common.{◌≡◌, map, take}
use Rattle.serde_json.specs.View.{view}
use Rattle.cue_page.specs.Ends.{number_data}
use Rattle.cue_page.proofs.board.ends.devices_value.Given as goal

-- those so far were put there
abbrev pub invariant-loop-device : goal.invariant-loop-device
invariant-loop-device l = map view l.numbers.items ≡ map number_data (take l.device-index l.devices)
