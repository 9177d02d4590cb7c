-- What a try at the sockets brings, and when it is time.
use Rattle.std.specs.Prelude.{◌≡◌, ℕ, Bool, false, ◌||◌, ◌-◌, nat_lt, nat_le, Option, None, Some, Ok}
use Rattle.cue_machine.specs.declared.ears.Input.{Input}
use Rattle.cue_machine.specs.declared.ears.Turn.{Turn}
use Rattle.cue_machine.specs.declared.ears.Turn.TheVariants as turn
use Rattle.cue_machine.specs.declared.ears.Input.TheVariants as input
use Rattle.cue_machine.specs.Hearing.{IsWithin}

-- what it brings lies within the buffer
abbrev pub IsTryWithin : Option Turn → ℕ → Type 0
IsTryWithin None size = Unit {0}
IsTryWithin (Some turn) size = IsWithin (Ok turn) size

-- this moment has come; with none it never comes
abbrev pub is_reached : Option ℕ → ℕ → Bool
is_reached None now = false
is_reached (Some until) now = nat_le until now

-- it is time to wake: the moment has come, or the clock was put back since the last answer
abbrev pub is_time : ℕ → Option ℕ → ℕ → Bool
is_time last until now = nat_lt now last || is_reached until now

-- how long to wait: until the moment comes; with none for good
abbrev pub patience : Option ℕ → ℕ → Option ℕ
patience None now = None
patience (Some until) now = Some (until - now)

-- a wake at this moment
abbrev pub woken : ℕ → Turn
woken now = turn.Comes now input.Wake 0
