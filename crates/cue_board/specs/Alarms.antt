-- What is wrong, in words.
use Rattle.std.specs.Prelude.{ℕ, List, ◌++◌, ◌-◌, codes, Option, None, Some}
use Rattle.std.specs.Fmt.{decimal}
use Rattle.cue_view.specs.declared.view.Trouble.{Trouble}
use Rattle.cue_view.specs.declared.view.Trouble.TheVariants as trouble
use Rattle.cue_view.specs.declared.view.Alarm.{Alarm}
use Rattle.cue_view.specs.declared.view.Alarm.TheVariants as alarm
use Rattle.cue_board.specs.Times.{seconds}

-- why the store cannot be read
abbrev pub trouble_words : Trouble → List ℕ
trouble_words trouble.Missing = codes "the store cannot be read: a file of it is not there"
trouble_words trouble.Refused = codes "the store cannot be read: the system refuses it, or it is no store"
trouble_words trouble.Changing = codes "the store cannot be read: it changes faster than it is read"
trouble_words trouble.Memory = codes "the store cannot be read: memory ran out"

-- no status was answered that was asked after this moment
abbrev pub silent_words : ℕ → ℕ → Option ℕ → List ℕ
silent_words port at (Some asked) =
    codes "serve does not answer at 127.0.0.1:" ++ (decimal port ++ (codes ": no answer for "
    ++ (seconds (at - asked) ++ codes " s")))
silent_words port at None =
    codes "serve does not answer at 127.0.0.1:" ++ (decimal port ++ codes ": it has not answered yet")

abbrev pub old_words : ℕ → Option ℕ → List ℕ
old_words at (Some read) = codes "the store was read last " ++ (seconds (at - read) ++ codes " s ago")
old_words at None = codes "the store has not been read yet"

abbrev pub stopped_words : ℕ → ℕ → List ℕ
stopped_words at since =
    codes "the relay has stopped: it has said nothing new for " ++ (seconds (at - since) ++ codes " s")

-- what is wrong at the moment of a view
abbrev pub alarm_words : ℕ → ℕ → Alarm → List ℕ
alarm_words port at alarm.NobodyListens =
    codes "nobody listens at 127.0.0.1:" ++ (decimal port ++ codes ": serve is not running there")
alarm_words port at (alarm.Silent asked) = silent_words port at asked
alarm_words port at (alarm.OtherStore since) =
    codes "these files are not those of the serve at port " ++ decimal port
alarm_words port at (alarm.NotShown since) =
    codes "serve at port " ++ (decimal port
    ++ codes " says that the last press was carried out, and the store does not show it")
alarm_words port at (alarm.RelayStopped since) = stopped_words at since
alarm_words port at (alarm.Unread why) = trouble_words why
alarm_words port at (alarm.Old read) = old_words at read
alarm_words port at (alarm.ClockPutBack q) =
    codes "the clock was put back: the ten seconds of attempt " ++ (decimal q ++ codes " are over")
alarm_words port at (alarm.Failed q) = codes "attempt " ++ (decimal q ++ codes " failed")
alarm_words port at (alarm.DeviceSilent d) = codes "device " ++ (decimal d ++ codes " is silent")
