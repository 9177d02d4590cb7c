-- What an answer to the question for a lock means.
use Rattle.std.specs.Prelude.{Bool, true, false, Option, Some, None, Result, Ok, Err}
use Rattle.std.specs.declared.fs.locks.TryLockError.{TryLockError}
use Rattle.std.specs.declared.fs.locks.TryLockError.TheVariants as lock

-- another process has it; if the file system knows no locks, none has
abbrev pub is_of_another : {T : Type 0} → Result T TryLockError → Bool
is_of_another (Ok held) = false
is_of_another (Err lock.WouldBlock) = true
is_of_another (Err (lock.Error error)) = false

-- a `serve` has the lock of a store, if it could be asked for at all
abbrev pub is_locked : {T : Type 0} → Option (Result T TryLockError) → Bool
is_locked (Some answer) = is_of_another answer
is_locked None = false
