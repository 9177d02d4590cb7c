-- How far a connection has come, and that it asks once.
use Rattle.std.specs.Prelude.{◌≡◌, Bool, true, false}
use Rattle.cue_connection.specs.declared.stage.Stage.{Stage}
use Rattle.cue_connection.specs.declared.stage.Stage.TheVariants as stage

-- its request is awaited
abbrev pub is_asking : Stage → Bool
is_asking stage.Asking = true
is_asking _ = false

-- it is still there
abbrev pub is_here_at : Stage → Bool
is_here_at stage.Gone = false
is_here_at _ = true

-- One that asks no more does not ask again.
pub record AsksOnce (old new : Stage) : Type 0 where
  pub once : is_asking new ≡ true → is_asking old ≡ true
