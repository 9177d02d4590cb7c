-- What a write and a sync leave of what a memory disk holds, as they were planned to end.
use Rattle.std.specs.Prelude.{◌+◌, ◌/◌, ℕ, nat_le, nat_lt, Bool, true, false, ◌&&◌, ◌||◌, List, [], length, take}
use Rattle.cue_disk.specs.Disk.{Contents, overwritten_bytes}
use Rattle.cue_disk.specs.declared.plan.CallOutcome.{CallOutcome}
use Rattle.cue_disk.specs.declared.plan.CallOutcome.TheVariants.{Succeeds, Fails, Stopped}

-- These bytes, all of them stable: what lies past them counts as touched.
abbrev pub settled_contents : List ℕ → Contents
settled_contents bytes = record { bytes = bytes; synced = length bytes; touched = λ i. nat_le (length bytes) i }

-- A write of so many bytes at this offset touches all of them, and stores those that it got to.
abbrev pub after_write : Contents → ℕ → ℕ → List ℕ → Contents
after_write now at asked stored = record {
  bytes = overwritten_bytes now.bytes at stored;
  synced = now.synced;
  touched = λ i. now.touched i || (nat_le at i && nat_lt i (at + asked));
}

-- the bytes that a write gets to: all, the first half rounded down if it is to fail, none if the disk has stopped
abbrev pub part_stored : CallOutcome → List ℕ → List ℕ
part_stored Succeeds bytes = bytes
part_stored Fails bytes = take (length bytes / 2) bytes
part_stored Stopped bytes = []

-- What a write leaves: a stopped disk, and one that found no memory, is as it was.
abbrev pub written_as : CallOutcome → Bool → ℕ → List ℕ → Contents → Contents
written_as Stopped lacked at bytes now = now
written_as outcome true at bytes now = now
written_as outcome false at bytes now = after_write now at (length bytes) (part_stored outcome bytes)

-- What a sync leaves: one that fails makes nothing stable.
abbrev pub synced_as : CallOutcome → Bool → Contents → Contents
synced_as Succeeds false now = settled_contents now.bytes
synced_as outcome lacked now = now
