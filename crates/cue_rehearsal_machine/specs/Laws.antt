-- What every rehearsal keeps, whatever comes and in whatever order, and whatever is lost.
use Rattle.std.specs.Prelude.{◌≡◌, ℕ, false, List, [], ◌∷◌, ◌++◌, Contains, map, Some, slice_get}
use Rattle.std.specs.List.{AllByRecursion}
use Rattle.cue_machine.specs.declared.address.Address.{Address}
use Rattle.cue_machine.specs.declared.ears.Input.TheVariants as input
use Rattle.cue_machine.specs.declared.post.Output.TheVariants as output
use Rattle.cue_machine.specs.Living.{AreTurns, IsTurn, Turn}
use Rattle.cue_machine.specs.Posting.{given_as, given_of}
use Rattle.cue_device.specs.declared.asked.Command.{Command}
use Rattle.cue_device.specs.declared.hearing.Device.{Device}
use Rattle.cue_device.specs.declared.words.Answer.{Answer}
use Rattle.cue_device.specs.declared.words.Order.TheVariants.{Move}
use Rattle.cue_device.specs.Datagrams.{IsFor, answer_text}
use Rattle.cue_device.specs.Hearing.{device_at_rest}
use Rattle.cue_device.specs.Histories.{Happening, answer_to, device_after, latest, order_at, orders_of}
use Rattle.cue_device.specs.Laws.{has_moved}
use Rattle.cue_rehearsal_machine.specs.declared.machine.RehearsalMachine.{RehearsalMachine}
use Rattle.cue_rehearsal_machine.specs.declared.seat.Seat.{Seat}
use Rattle.cue_rehearsal_machine.specs.Deeds.{Deed, happening_at}
use Rattle.cue_rehearsal_machine.specs.Lives.{rehearsal_machine}
use Rattle.cue_rehearsal_machine.specs.Seats.{seat_of}

-- a device that has heard of no attempt, with its machine at rest
abbrev pub IsFresh : Seat → Type 0
IsFresh seat = seat ≡ seat_of seat.player.device.number seat.player.manner seat.controller

-- nothing came to any device yet
abbrev pub IsNew : RehearsalMachine → Type 0
IsNew m = AllByRecursion IsFresh m.seats.items

-- a rehearsal had these turns, the first of its life and those after it
pub record HadTurns (m : RehearsalMachine) (ts : List Turn) (m_then : RehearsalMachine) : Type 0 where
  pub new : IsNew m
  pub turns : AreTurns rehearsal_machine m ts m_then

-- what happened in these turns, one deed for each, in order
abbrev pub deeds_of : (m : RehearsalMachine) (ts : List Turn) (m_then : RehearsalMachine)
    → AreTurns rehearsal_machine m ts m_then → List Deed
deeds_of m [] m_then h = []
deeds_of m (t ∷ ts) m_then h = h.1.stepped.deed ∷ deeds_of h.0 ts m_then h.2

-- what happened to the device of a place, the latest first: before, and in these deeds
abbrev pub history_from : ℕ → List Happening → List Deed → List Happening
history_from place hs [] = hs
history_from place hs (d ∷ ds) = history_from place (latest (happening_at place d) hs) ds

abbrev pub history_of : ℕ → List Deed → List Happening
history_of place ds = history_from place [] ds

-- the device that sat at a place at the beginning, before anything happened to it
abbrev pub device_of : Seat → Device
device_of first = device_at_rest first.player.device.number 0

-- the history of the device of a place in a rehearsal
abbrev pub history_in : (m : RehearsalMachine) (ts : List Turn) (m_then : RehearsalMachine) → HadTurns m ts m_then → ℕ
    → List Happening
history_in m ts m_then had place = history_of place (deeds_of m ts m_then had.turns)

-- ---- each device keeps the table

-- Each device is what the table of `cue_device` makes of what happened to it: of each datagram that came to it and was
-- not drawn to be lost, once and in order, of each end to which its machine came, and of nothing else.
abbrev pub KeepsTheTable : Type 0
KeepsTheTable =
    (m : RehearsalMachine) (ts : List Turn) (m_then : RehearsalMachine) (had : HadTurns m ts m_then) (place : ℕ)
    (first seat : Seat) → slice_get m.seats.items place ≡ Some first → slice_get m_then.seats.items place ≡ Some seat
    → seat.player.device ≡ device_after (device_of first) (history_in m ts m_then had place)

-- for each number its machine begins to move at most once, whatever copies come
abbrev pub MovesOnce : Type 0
MovesOnce =
    (m : RehearsalMachine) (ts : List Turn) (m_then : RehearsalMachine) (had : HadTurns m ts m_then) (place q : ℕ)
    (first : Seat) (later : List Happening) (h : Happening) (before : List Happening)
    → slice_get m.seats.items place ≡ Some first → history_in m ts m_then had place ≡ later ++ h ∷ before
    → order_at h (device_after (device_of first) before) ≡ Some (Move q)
    → has_moved q (orders_of (device_of first) before) ≡ false

-- ---- nothing but answers is sent

-- one of these datagrams is an order to the device of this number, and came from there to its place
pub record Ordered (place n : ℕ) (from : Address) (ts : List Turn) : Type 0 where
  pub before : List Turn
  pub turn : Turn
  pub after : List Turn
  pub all : ts ≡ before ++ turn ∷ after
  pub came : turn.heard.input ≡ input.Datagram place from
  pub command : Command
  pub order : IsFor n turn.heard.bytes command

-- these bytes are what the table answers to what happens to the device of a place in this deed, after this history; and
-- they go to who sent it an order
pub record Answers (first : Seat) (place : ℕ) (to : Address) (bytes : List ℕ) (hs : List Happening) (d : Deed)
    (ts : List Turn) : Type 0 where
  pub what : Happening
  pub happens : happening_at place d ≡ Some what
  pub answer : Answer
  pub answers : answer_to what (device_after (device_of first) hs) ≡ Some answer
  pub text : bytes ≡ answer_text first.player.device.number answer
  pub ordered : Ordered place first.player.device.number to ts

-- Each datagram that leaves in a turn leaves by the socket of a device, and is its answer to what happens to it in this
-- turn. It goes to an address from which an order to this device came.
abbrev pub SendsOnlyAnswers : Type 0
SendsOnlyAnswers =
    (m : RehearsalMachine) (ts : List Turn) (mid : RehearsalMachine) (t : Turn) (m_then : RehearsalMachine)
    (had : HadTurns m ts mid) (one : IsTurn rehearsal_machine mid t m_then) (by : ℕ) (to : Address) (bytes : List ℕ)
    → Contains (map given_of t.posted) (given_as (output.Send by to) bytes)
    → (first : Seat) × (slice_get m.seats.items by ≡ Some first)
    × Answers first by to bytes (history_in m ts mid had by) one.stepped.deed (ts ++ t ∷ [])
