-- Whether a view says all that it ever will of a store and a controller.
use Rattle.std.specs.Prelude.{Bool, true, false, ◌&&◌, ◌||◌, is_some}
use Rattle.std.specs.List.{list_any}
use Rattle.cue_view.specs.declared.view.Alarm.{Alarm}
use Rattle.cue_view.specs.declared.view.Alarm.TheVariants as alarm
use Rattle.cue_view.specs.declared.view.View.{View}

-- the store cannot be read
abbrev pub is_unread : Alarm → Bool
is_unread (alarm.Unread why) = true
is_unread _ = false

-- nobody listens at the port
abbrev pub is_alone : Alarm → Bool
is_alone alarm.NobodyListens = true
is_alone _ = false

-- the store was read, or cannot be
abbrev pub knows_store : View → Bool
knows_store v = is_some v.read || list_any is_unread v.alarms.items

-- a status was answered, or nobody listens
abbrev pub knows_controller : View → Bool
knows_controller v = is_some v.served || list_any is_alone v.alarms.items

abbrev pub is_complete : View → Bool
is_complete v = knows_store v && knows_controller v
