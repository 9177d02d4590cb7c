-- What the alarms come to, in single facts.
use Rattle.std.specs.Prelude.{◌≡◌, ◌≤◌, ℕ, Bool, true, false, not, List, [], ◌∷◌, All, map, Option, None}
use Rattle.std.specs.List.{list_any}
use Rattle.cue_station.specs.declared.alarms.Facts.{Facts}
use Rattle.cue_station.specs.declared.limits.TheConstants.{STATUS_MS}
use Rattle.cue_station.specs.declared.memory.Reading.{Reading}
use Rattle.cue_view.specs.declared.view.Alarm.{Alarm}
use Rattle.cue_view.specs.declared.view.Alarm.TheVariants as alarm
use Rattle.cue_view.specs.declared.view.Contacted.{Contacted}
use Rattle.cue_view.specs.Sight.{is_age}
use Rattle.cue_station.specs.Alarms.{alarms_by, awaited_by, is_in_sight, is_within}

-- nobody answers at the port
abbrev pub is_silence : Alarm → Bool
is_silence alarm.NobodyListens = true
is_silence (alarm.Silent since) = true
is_silence _ = false

-- how loud an alarm is: the loudest has 0
abbrev pub rank_of : Alarm → ℕ
rank_of alarm.NobodyListens = 0
rank_of (alarm.Silent since) = 1
rank_of (alarm.OtherStore since) = 2
rank_of (alarm.NotShown since) = 2
rank_of (alarm.RelayStopped since) = 3
rank_of (alarm.Unread why) = 4
rank_of (alarm.Old read) = 5
rank_of (alarm.ClockPutBack q) = 6
rank_of (alarm.Failed q) = 7
rank_of (alarm.DeviceSilent d) = 8

-- no alarm is louder than one before it
abbrev pub IsLoudestFirst : List Alarm → Type 0
IsLoudestFirst [] = Unit {0}
IsLoudestFirst (a ∷ more) = All (λ b. rank_of a ≤ rank_of b) more × IsLoudestFirst more

-- there is an alarm of silence exactly if no status is alive
abbrev pub SilenceIsSaid : Type 0
SilenceIsSaid =
    (f : Facts) (back failures : List ℕ) (network : List Contacted)
    → list_any is_silence (alarms_by f back failures network) ≡ not (is_within STATUS_MS f.at f.asked)

-- there is one of age exactly if no copy is young, or its files were not there when they were looked at last
abbrev pub AgeIsSaid : Type 0
AgeIsSaid =
    (f : Facts) (back failures : List ℕ) (network : List Contacted)
    → list_any is_age (alarms_by f back failures network) ≡ not (is_in_sight f)

abbrev pub LoudestFirst : Type 0
LoudestFirst =
    (f : Facts) (back failures : List ℕ) (network : List Contacted)
    → IsLoudestFirst (alarms_by f back failures network)

-- what the relay says of a device, without what the device told of itself
abbrev pub unclaimed : Contacted → Contacted
unclaimed c = record {
  device = c.device;
  heard = c.heard;
  ordered = c.ordered;
  motion = c.motion;
  silent = c.silent;
  claims = record { reason = None; position = None; identity = None };
}

-- whatever devices tell of themselves, the alarms are the same
abbrev pub ClaimsRaiseNoAlarm : Type 0
ClaimsRaiseNoAlarm =
    (f : Facts) (back failures : List ℕ) (reading : Option Reading) (network : List Contacted)
    → alarms_by f back failures (awaited_by reading (map unclaimed network))
    ≡ alarms_by f back failures (awaited_by reading network)
