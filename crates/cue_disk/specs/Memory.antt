-- What callers see of a memory disk.
use Rattle.std.specs.Prelude.{◌≡◌, ◌&&◌, ℕ, Bool, not, List, Result, is_ok}
use Rattle.cue_disk.specs.Disk.{Contents, one_more}
use Rattle.cue_disk.specs.Effect.{settled_contents}
use Rattle.cue_disk.specs.Medium.{medium_held, medium_moment, medium_held_at}
use Rattle.cue_disk.specs.Plan.{no_plan, outcome_of, goes_through, after_one}
use Rattle.cue_disk.specs.declared.plan.Plan.{Plan}
use Rattle.cue_disk.specs.declared.memory.MemDisk.{MemDisk}

-- what it holds
abbrev pub memory_held : MemDisk → Contents
memory_held disk = medium_held disk.medium

-- its present bytes
abbrev pub memory_bytes : MemDisk → List ℕ
memory_bytes disk = (memory_held disk).bytes

-- the number of writes and syncs that changed it
abbrev pub memory_moment : MemDisk → ℕ
memory_moment disk = medium_moment disk.medium

-- what it held after so many of them
abbrev pub memory_held_at : MemDisk → ℕ → Contents
memory_held_at disk k = medium_held_at disk.medium k

-- the number of calls so far, up to the last number of 64 bits
abbrev pub memory_calls : MemDisk → ℕ
memory_calls disk = disk.calls

-- the number of calls that failed, up to the last number of 64 bits
abbrev pub memory_failures : MemDisk → ℕ
memory_failures disk = disk.failures

-- which of its next calls are to fail
abbrev pub memory_plan : MemDisk → Plan
memory_plan disk = disk.plan

-- the last call found no memory
abbrev pub lacked_memory : MemDisk → Bool
lacked_memory disk = disk.lacked_memory

-- A disk with these bytes, all of them stable, on which no call was made or planned to fail.
pub record IsNew (bytes : List ℕ) (disk : MemDisk) : Type 0 where
  pub held : memory_held disk ≡ settled_contents bytes
  pub moment : memory_moment disk ≡ 0
  pub calls : memory_calls disk ≡ 0
  pub failures : memory_failures disk ≡ 0
  pub plan : memory_plan disk ≡ no_plan

-- Nothing changed but what is planned.
pub record IsSameButPlan (old new : MemDisk) : Type 0 where
  pub held : memory_held new ≡ memory_held old
  pub moment : memory_moment new ≡ memory_moment old
  pub held_at : memory_held_at new ≡ memory_held_at old
  pub calls : memory_calls new ≡ memory_calls old
  pub failures : memory_failures new ≡ memory_failures old
  pub lacked : lacked_memory new ≡ lacked_memory old

-- Each call is counted, and the plan comes one call nearer.
pub record IsCounted (old new : MemDisk) : Type 0 where
  pub calls : memory_calls new ≡ one_more (memory_calls old)
  pub plan : memory_plan new ≡ after_one (memory_plan old)

-- A call that takes no memory goes through exactly if no failure was planned for it.
abbrev pub GoesAsPlanned : {T E : Type 0} → Result T E → MemDisk → Type 0
GoesAsPlanned result old = is_ok result ≡ goes_through (outcome_of (memory_plan old) 1)

-- A call that takes memory goes through exactly if no failure was planned for it and the memory was there.
abbrev pub GoesWithMemory : {T E : Type 0} → Result T E → MemDisk → MemDisk → Type 0
GoesWithMemory result old new =
    is_ok result ≡ (goes_through (outcome_of (memory_plan old) 1) && not (lacked_memory new))

-- A call has begun: it was counted, and nothing else is new.
pub record IsBegun (old new : MemDisk) : Type 0 where
  pub medium : new.medium ≡ old.medium
  pub counted : IsCounted old new
  pub failures : memory_failures new ≡ memory_failures old

-- A call has ended: whether it found no memory and how many have failed may be new, and nothing else.
pub record IsEnded (old new : MemDisk) : Type 0 where
  pub medium : new.medium ≡ old.medium
  pub plan : memory_plan new ≡ memory_plan old
  pub calls : memory_calls new ≡ memory_calls old
