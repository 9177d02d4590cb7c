-- What is wrong, as JSON (RFC 8259).
use Rattle.std.specs.Prelude.{ℕ, List, codes}
use Rattle.serde_json.specs.Data.{Data, number, unsigned, string, object, member, no_members}
use Rattle.cue_view.specs.declared.view.Alarm.{Alarm}
use Rattle.cue_view.specs.declared.view.Alarm.TheVariants as alarm
use Rattle.cue_board.specs.Alarms.{alarm_words}

-- which alarm it is
abbrev pub kind_of : Alarm → List ℕ
kind_of alarm.NobodyListens = codes "silent"
kind_of (alarm.Silent asked) = codes "silent"
kind_of (alarm.OtherStore since) = codes "other"
kind_of (alarm.NotShown since) = codes "unshown"
kind_of (alarm.RelayStopped since) = codes "relay"
kind_of (alarm.Unread why) = codes "old"
kind_of (alarm.Old read) = codes "old"
kind_of (alarm.ClockPutBack q) = codes "clock"
kind_of (alarm.Failed q) = codes "failed"
kind_of (alarm.DeviceSilent d) = codes "device"

-- the attempt or the device that it is of; 0 if it is of none
abbrev pub subject_of : Alarm → ℕ
subject_of (alarm.ClockPutBack q) = q
subject_of (alarm.Failed q) = q
subject_of (alarm.DeviceSilent d) = d
subject_of _ = 0

abbrev pub alarm_data : ℕ → ℕ → Alarm → Data
alarm_data port at a =
    object (member (codes "kind") (string (kind_of a))
    (member (codes "of") (number (unsigned (subject_of a)))
    (member (codes "words") (string (alarm_words port at a)) no_members)))
