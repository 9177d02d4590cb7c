use Rattle.std.proofs.Common.{◌≡◌, map, take}
use Rattle.serde_json.specs.View.{view}
use Rattle.cue_page.specs.Alarms.{alarm_data}
use Rattle.cue_page.proofs.board.alarms.alarms_value.Given as goal

-- those so far were put there
abbrev pub invariant-loop-alarm : goal.invariant-loop-alarm
invariant-loop-alarm l = map view l.values.items ≡ map (alarm_data l.port l.at) (take l.alarm-index l.all)
