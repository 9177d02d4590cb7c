-- The sign of a rehearsal: a file beside the show file, which is locked as long as the rehearsal runs.
use Rattle.std.specs.Prelude.{ℕ, Bool, true, false, List, ◌++◌, codes, Result, Ok, Err}
use Rattle.std.specs.declared.fs.locks.TryLockError.{TryLockError}
use Rattle.std.specs.declared.fs.locks.TryLockError.TheVariants as lock

-- the sign of the show file of this name
abbrev pub sign_of : List ℕ → List ℕ
sign_of show = show ++ codes ".rehearsal"

-- a rehearsal runs, by what the lock of its sign says: another program has it. A file system without locks says nothing,
-- and then no rehearsal is said: who takes a real device for a played one stands in its way.
abbrev pub is_up : {T : Type 0} → Result T TryLockError → Bool
is_up (Ok free) = false
is_up (Err lock.WouldBlock) = true
is_up (Err (lock.Error error)) = false
