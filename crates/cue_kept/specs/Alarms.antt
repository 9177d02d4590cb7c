-- What a desk keeps of what went wrong, as lists.
use Rattle.std.specs.Prelude.{ℕ, ◌<◌, ◌≤◌, List, length, All, IsTrue}
use Rattle.cue_show.specs.DeviceNumber.{is_device}
use Rattle.cue_kept.specs.declared.TheConstants.{MOST}
use Rattle.cue_log_lines.specs.Fitting.{FitsCue}
use Rattle.cue_view.specs.declared.view.Kept.{Kept}
use Rattle.cue_view.specs.declared.view.Told.{Told}

-- the attempts whose failure somebody has said he saw, and the failures that nobody has said he saw
pub record Alarms : Type 0 where
  pub seen : List ℕ
  pub failed : List Told

-- the two lists of what is kept
abbrev pub alarms_of : Kept → Alarms
alarms_of k = record { seen = k.seen.items; failed = k.failed.items }

-- device numbers, and so few that their count is a number of 32 bits
pub record FitsDevices (devices : List ℕ) : Type 0 where
  pub few : length devices < 4294967296
  pub each : All (λ d. IsTrue (is_device d)) devices

-- a number of 32 bits, a cue number and device numbers: what their types hold
pub record FitsTold (t : Told) : Type 0 where
  pub seq : t.seq < 4294967296
  pub cue : FitsCue t.cue
  pub failed : FitsDevices t.failed
  pub excused : FitsDevices t.excused

-- what a text may have: at most MOST attempts that were seen, and at most MOST failures
pub record Fits (a : Alarms) : Type 0 where
  pub few_seen : length a.seen ≤ MOST
  pub seen : All (λ n. n < 4294967296) a.seen
  pub few_failed : length a.failed ≤ MOST
  pub failed : All FitsTold a.failed
