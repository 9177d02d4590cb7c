-- What is told of something that is tried again and again.
use Rattle.std.specs.Prelude.{◌≡◌, Bool, true, false, if◌then◌else◌, Option, None, Some, Result, Ok, Err, IsSome}
use Rattle.std.specs.declared.io.Error.{Error}
use Rattle.cue_desk_run.specs.declared.failing.Tries.{Tries}

-- nothing was tried yet
abbrev pub untried : Tries
untried = record { has_failed = false; fault = None }

-- a try that fails after one that did not is told; those after it are not
abbrev pub noted : Result (Unit {0}) Error → Tries → Tries
noted (Ok done) t = record { has_failed = false; fault = t.fault }
noted (Err why) t = record { has_failed = true; fault = if t.has_failed then t.fault else Some why }

-- it failed, and if the one before did not, why it did is to be told
pub record Fails (old new : Tries) : Type 0 where
  pub failed : new.has_failed ≡ true
  pub kept : old.has_failed ≡ false → IsSome new.fault
