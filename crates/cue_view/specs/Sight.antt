-- Whether what is shown of the store is of now.
use Rattle.std.specs.Prelude.{Bool, true, false, not}
use Rattle.std.specs.List.{list_any}
use Rattle.cue_view.specs.declared.view.Alarm.{Alarm}
use Rattle.cue_view.specs.declared.view.Alarm.TheVariants as alarm
use Rattle.cue_view.specs.declared.view.View.{View}

-- it says that the store is old, or is not there
abbrev pub is_age : Alarm → Bool
is_age (alarm.Unread why) = true
is_age (alarm.Old read) = true
is_age _ = false

-- no alarm says so
abbrev pub is_in_sight : View → Bool
is_in_sight v = not (list_any is_age v.alarms.items)
