-- How much of a device goes on to the controller.
use Rattle.std.specs.Prelude.{ℕ, ◌-◌, Bool, true, ◌||◌, if◌then◌else◌, List, [], ◌∷◌, take, nat_lt, nat_le}
use Rattle.std.specs.Prelude.{Option, None, Some, slice_get, slice_set, unwrap_or}
use Rattle.cue_relay.specs.declared.rate.TheConstants.{RATE, SECOND}
use Rattle.cue_relay.specs.declared.route.Opening.{Opening}
use Rattle.cue_relay.specs.declared.route.Side.{Side}
use Rattle.cue_relay.specs.declared.route.Side.TheVariants.{Controller, Stage}

-- a second and more has passed since this time, or the clock was put back before it
abbrev pub is_past : ℕ → ℕ → Bool
is_past time now = nat_lt now time || nat_le SECOND (now - time)

-- if there is a time, it is past
abbrev pub is_past_or_none : Option ℕ → ℕ → Bool
is_past_or_none None now = true
is_past_or_none (Some time) now = is_past time now

-- One more may go on if fewer than a hundred went on before, or the hundredth before it a second ago or more. The
-- times are those of the last hundred, the latest first.
abbrev pub has_room : List ℕ → ℕ → Bool
has_room times now = is_past_or_none (slice_get times (RATE - 1)) now

-- the times once one more went on
abbrev pub times_after : List ℕ → ℕ → List ℕ
times_after times now = take RATE (now ∷ times)

-- the times once it was asked whether one more goes on now
abbrev pub times_noted : List ℕ → ℕ → List ℕ
times_noted times now = if has_room times now then times_after times now else times

-- the times of a route
abbrev pub times_of : List (List ℕ) → ℕ → List ℕ
times_of meters route = unwrap_or (slice_get meters route) []

-- what came at this side of the route may go on now: all that came of the controller, and of a device what has room
abbrev pub admits_at : Side → List (List ℕ) → ℕ → ℕ → Bool
admits_at Controller meters route now = true
admits_at Stage meters route now = has_room (times_of meters route) now

abbrev pub admits : List (List ℕ) → Opening → ℕ → Bool
admits meters at now = admits_at at.side meters at.route now

-- the times of all routes once it was asked
abbrev pub meters_at : Side → List (List ℕ) → ℕ → ℕ → List (List ℕ)
meters_at Controller meters route now = meters
meters_at Stage meters route now = slice_set meters route (times_noted (times_of meters route) now)

abbrev pub meters_after : List (List ℕ) → Opening → ℕ → List (List ℕ)
meters_after meters at now = meters_at at.side meters at.route now
