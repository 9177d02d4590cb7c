-- Why `show` prints no state.
use Rattle.std.specs.Prelude.{◌≡◌, ℕ, List}
use Rattle.cue_keeper.specs.declared.fault.StoreFault.{StoreFault}
use Rattle.cue_copies.specs.Copies.{CannotBeOpened}
use Rattle.cue_script.specs.declared.ending.Failure.TheVariants.{Store}
use Rattle.cue_program.specs.declared.program.fault.ProgramFault.{ProgramFault}
use Rattle.cue_program.specs.declared.program.fault.ProgramFault.TheVariants.{Failed}

-- The fault is one of a store, and it says why the two are not opened.
pub record IsRefusedFor (x y : List ℕ) (fault : ProgramFault) : Type 0 where
  pub store : StoreFault
  pub named : fault ≡ Failed (Store store)
  pub why : CannotBeOpened store x y
