-- What callers see of an area that was opened.
use Rattle.std.specs.Prelude.{◌≡◌, ◌≢◌, ℕ, Result, Ok, Err}
use Rattle.cue_log.specs.Area.{Area}
use Rattle.cue_log.specs.Observed.{disk_of, generation_of}
use Rattle.cue_log.specs.declared.opening.Opened.{Opened}

-- what was read
abbrev pub area_read : {D : Type 0} {disk : _} → Opened D disk → Area
area_read opened = record {
  generation = generation_of opened.log;
  snapshot = opened.snapshot;
  payloads = opened.records;
}

-- the disk that the log has
abbrev pub opened_disk : {D : Type 0} {disk : _} → Opened D disk → D
opened_disk opened = disk_of opened.log

-- a fault of a call on one disk, which comes back with it, is answered only if it is so
abbrev pub FailsAs : {T E D : Type 0} → E → Type 0 → Result T (E × D) → Type 0
FailsAs fault reason (Ok made) = Unit {0}
FailsAs fault reason (Err refused) = refused.0 ≡ fault → reason

-- a count of failures rose only if this fault is answered
abbrev pub CountsOnlyAs : {T E D : Type 0} → E → ℕ → ℕ → Result T (E × D) → Type 0
CountsOnlyAs fault old new (Ok made) = new ≡ old
CountsOnlyAs fault old new (Err refused) = refused.0 ≢ fault → new ≡ old
