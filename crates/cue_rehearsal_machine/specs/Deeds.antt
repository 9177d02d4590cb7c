-- What happens in a turn.
use Rattle.std.specs.Prelude.{◌≡◌, ◌⊎◌, ℕ, ◌==◌, Bool, true, false, if◌then◌else◌, List, Option, Some, None}
use Rattle.std.specs.Prelude.{slice_get}
use Rattle.std.specs.List.{AllByRecursion}
use Rattle.cue_machine.specs.declared.address.Address.{Address}
use Rattle.cue_machine.specs.declared.ears.Input.{Input}
use Rattle.cue_machine.specs.declared.ears.Input.TheVariants as input
use Rattle.cue_machine.specs.Hearing.{Heard}
use Rattle.cue_device.specs.Histories.{Happening}
use Rattle.cue_rehearsal.specs.declared.chance.Chance.{Chance}
use Rattle.cue_rehearsal.specs.Drawing.{is_lost}
use Rattle.cue_rehearsal_machine.specs.declared.machine.RehearsalMachine.{RehearsalMachine}
use Rattle.cue_rehearsal_machine.specs.declared.seat.Due.{Due}
use Rattle.cue_rehearsal_machine.specs.declared.seat.Seat.{Seat}
use Rattle.cue_rehearsal_machine.specs.Seats.{IsHeard, due_of, what_passes}

-- All that a rehearsal knows: each device at the place of its socket, how many of a hundred datagrams are lost, how
-- much longer a machine may take, the draws, and that a line could not be printed.
pub record State : Type 0 where
  pub seats : List Seat
  pub loss : ℕ
  pub spread : ℕ
  pub chance : Chance
  pub broken : Bool

abbrev pub state_of : RehearsalMachine → State
state_of m = record {
  seats = m.seats.items;
  loss = m.loss;
  spread = m.spread;
  chance = m.chance;
  broken = m.broken;
}

-- Nothing happens; a datagram to a device is drawn to be lost; the device of a place hears a datagram from there, which
-- is this to it; or this is due of the device of a place.
pub data Deed : Type 0 where
  idle : Deed
  loses : Deed
  heard_at : ℕ → Seat → Address → Option Happening → Deed
  passes_at : ℕ → Seat → Due → Deed

-- a datagram came to the device of a place: it is drawn to be lost, or the device hears it
abbrev pub IsHearing : Bool → ℕ → Seat → Address → List ℕ → Deed → Type 0
IsHearing true at seat from bytes deed = deed ≡ loses
IsHearing false at seat from bytes deed =
    (what : Option Happening) × IsHeard seat.player bytes what × (deed ≡ heard_at at seat from what)

-- a datagram came at a place, where this device is, if there is one
abbrev pub IsArrival : State → ℕ → Address → List ℕ → Option Seat → Deed → Type 0
IsArrival s at from bytes None deed = deed ≡ idle
IsArrival s at from bytes (Some seat) deed = IsHearing (is_lost s.loss s.chance) at seat from bytes deed

-- this is due of the device of this place
pub record IsDue (seats : List Seat) (now place : ℕ) (due : Due) : Type 0 where
  pub seat : Seat
  pub sits : slice_get seats place ≡ Some seat
  pub is_due : due_of now seat ≡ Some due

-- nothing is due of any of these
abbrev pub NothingDue : ℕ → List Seat → Type 0
NothingDue now seats = AllByRecursion (λ seat. due_of now seat ≡ None) seats

-- one device of which something is due has its turn, if there is one
abbrev pub IsPassing : State → ℕ → Deed → Type 0
IsPassing s now deed =
    ((deed ≡ idle) × NothingDue now s.seats)
    ⊎ ((place : ℕ) × (due : Due) × (at : IsDue s.seats now place due) × (deed ≡ passes_at place at.seat due))

-- what happens by what came
abbrev pub IsDeedBy : State → ℕ → Input → List ℕ → Deed → Type 0
IsDeedBy s now (input.Datagram at from) bytes deed = IsArrival s at from bytes (slice_get s.seats at) deed
IsDeedBy s now (input.Refused at) bytes deed = deed ≡ idle
IsDeedBy s now input.Wake bytes deed = IsPassing s now deed

abbrev pub IsDeed : State → Heard → Deed → Type 0
IsDeed s h deed = IsDeedBy s h.now h.input h.bytes deed

-- what happens to the device of a place in a turn
abbrev pub happening_at : ℕ → Deed → Option Happening
happening_at place idle = None
happening_at place loses = None
happening_at place (heard_at at seat from what) = if at == place then what else None
happening_at place (passes_at at seat due) = if at == place then Some (what_passes due seat) else None
