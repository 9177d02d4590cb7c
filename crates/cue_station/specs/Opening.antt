-- Tests of the two presses that are kept.
use Rattle.std.specs.Prelude.{ℕ, Bool, false, Option, None, Some, nat_eq}
use Rattle.cue_station.specs.declared.memory.Pending.{Pending}
use Rattle.cue_station.specs.Asking.{is_final}

abbrev pub is_some_final : Option Pending → Bool
is_some_final None = false
is_some_final (Some p) = is_final p.button

abbrev pub has_ask : ℕ → Option Pending → Bool
has_ask n None = false
has_ask n (Some p) = nat_eq p.ask n
