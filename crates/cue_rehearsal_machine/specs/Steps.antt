-- What a step of a rehearsal gives, and what is left after it.
use Rattle.std.specs.Prelude.{◌≡◌, ℕ, ◌++◌, Bool, true, false, not, ◌||◌, is_some, if◌then◌else◌, List, [], ◌∷◌}
use Rattle.std.specs.Prelude.{Option, Some, None, map, slice_set}
use Rattle.cue_machine.specs.declared.address.Address.{Address}
use Rattle.cue_machine.specs.declared.post.Output.{Output}
use Rattle.cue_machine.specs.declared.post.Output.TheVariants as output
use Rattle.cue_machine.specs.Hearing.{Heard}
use Rattle.cue_machine.specs.Posting.{Given, given_as}
use Rattle.cue_device.specs.declared.words.Answer.{Answer}
use Rattle.cue_device.specs.declared.words.Answer.TheVariants.{StandingBy, Complete, Cancelled, Abort}
use Rattle.cue_device.specs.Datagrams.{answered_text}
use Rattle.cue_device.specs.Histories.{Happening}
use Rattle.cue_rehearsal.specs.declared.chance.Chance.{Chance}
use Rattle.cue_rehearsal.specs.Drawing.{chance_of, is_lost, next, up_to}
use Rattle.cue_rehearsal_machine.specs.declared.machine.RehearsalMachine.{RehearsalMachine}
use Rattle.cue_rehearsal_machine.specs.declared.seat.Due.{Due}
use Rattle.cue_rehearsal_machine.specs.declared.seat.Due.TheVariants.{Ends, Repeats}
use Rattle.cue_rehearsal_machine.specs.declared.seat.Role.{Role}
use Rattle.cue_rehearsal_machine.specs.declared.seat.Seat.{Seat}
use Rattle.cue_rehearsal_machine.specs.Deeds.{Deed, IsDeed, State, heard_at, idle, loses, passes_at, state_of}
use Rattle.cue_rehearsal_machine.specs.Seats.{answer_passed, answered_at, earlier, ordered_at, seat_heard, seat_passed}
use Rattle.cue_rehearsal_machine.specs.Seats.{seat_in, wakes_of}

-- these devices, to which nothing came yet, with the draws of this seed
abbrev pub begun : List Role → ℕ → ℕ → ℕ → State
begun roles loss spread seed = record {
  seats = map seat_in roles;
  loss = loss;
  spread = spread;
  chance = chance_of seed;
  broken = false;
}

-- ---- draws

-- how much longer a machine takes for what is ordered now: the draw after the one by which the datagram was not lost
abbrev pub longer_of : State → ℕ
longer_of s = up_to s.spread (next s.chance)

-- an answer goes out if there is one, and if it is not drawn to be lost
abbrev pub goes_out : ℕ → Chance → List ℕ → Bool
goes_out loss c [] = false
goes_out loss c (b ∷ bytes) = not (is_lost loss c)

abbrev pub after_answer : Chance → List ℕ → Chance
after_answer c [] = c
after_answer c (b ∷ bytes) = next c

-- ---- what is given

-- an answer, by the socket of this place
abbrev pub sent_given : ℕ → Address → List ℕ → Bool → List Given
sent_given by to bytes goes = if goes then given_as (output.Send by to) bytes ∷ [] else []

-- the answer is an abort
abbrev pub is_abort : Option Answer → Bool
is_abort None = false
is_abort (Some (StandingBy q)) = false
is_abort (Some (Complete q)) = false
is_abort (Some (Cancelled q)) = false
is_abort (Some (Abort q)) = true

-- one line was printed, if something is said
pub record IsPrinted (says : Bool) (given given_then : List Given) : Type 0 where
  pub text : List ℕ
  pub printed : given_then ≡ given ++ (if says then given_as output.Print text ∷ [] else [])

-- all that is given of a device: its answer, unless it is drawn to be lost, and the line on it
abbrev pub IsGiven : ℕ → Address → List ℕ → ℕ → Chance → Bool → List Given → Type 0
IsGiven by to bytes loss chance says given = IsPrinted says (sent_given by to bytes (goes_out loss chance bytes)) given

-- ---- what a turn makes of a device

-- The device at its socket after a turn, to whom it answers what, whether a line is printed, and the draws from there.
pub record Outcome : Type 0 where
  pub seat : Seat
  pub to : Address
  pub bytes : List ℕ
  pub says : Bool
  pub chance : Chance

-- it heard a datagram: who sent that is answered at once, and a line says what is ordered
abbrev pub heard_outcome : State → ℕ → Seat → Address → Option Happening → Outcome
heard_outcome s now seat from what = record {
  seat = seat_heard now (longer_of s) from what seat;
  to = from;
  bytes = answered_text seat.player.device.number (answered_at what seat.player.device);
  says = is_some (ordered_at what seat.player.device);
  chance = next (next s.chance);
}

-- a line says that it aborts; not each time that the abort is sent again
abbrev pub is_said : Due → Option Answer → Bool
is_said (Ends order) answer = is_abort answer
is_said Repeats answer = false

-- this was due: who ordered its machine last is answered
abbrev pub passed_outcome : State → ℕ → Seat → Due → Outcome
passed_outcome s now seat due = record {
  seat = seat_passed now due seat;
  to = seat.controller;
  bytes = answered_text seat.player.device.number (answer_passed due seat);
  says = is_said due (answer_passed due seat);
  chance = s.chance;
}

-- what is given then: the answer unless it is lost, and the line
abbrev pub GivesOf : State → ℕ → Outcome → List Given → Type 0
GivesOf s place o given = IsGiven place o.to o.bytes s.loss o.chance o.says given

-- the device of this place has become so, and so much is drawn
abbrev pub settled : State → ℕ → Seat → Chance → State
settled s place seat chance = record {
  seats = slice_set s.seats place seat;
  loss = s.loss;
  spread = s.spread;
  chance = chance;
  broken = s.broken;
}

-- what is left then
abbrev pub left_of : State → ℕ → Outcome → State
left_of s place o = settled s place o.seat (after_answer o.chance o.bytes)

-- ---- steps

-- one draw more
abbrev pub drawn : State → State
drawn s = record {
  seats = s.seats;
  loss = s.loss;
  spread = s.spread;
  chance = next s.chance;
  broken = s.broken;
}

-- what is given for what happens: nothing but what a device answers and the line on it
abbrev pub Gives : State → ℕ → Deed → List Given → Type 0
Gives s now idle given = given ≡ []
Gives s now loses given = given ≡ []
Gives s now (heard_at at seat from what) given = GivesOf s at (heard_outcome s now seat from what) given
Gives s now (passes_at at seat due) given = GivesOf s at (passed_outcome s now seat due) given

-- what is left after it: no other device is changed
abbrev pub left_after : State → ℕ → Deed → State
left_after s now idle = s
left_after s now loses = drawn s
left_after s now (heard_at at seat from what) = left_of s at (heard_outcome s now seat from what)
left_after s now (passes_at at seat due) = left_of s at (passed_outcome s now seat due)

-- The law: what came says what happens; of that alone something is given, and something is left.
pub record Steps (s : State) (h : Heard) (given : List Given) (s_then : State) : Type 0 where
  pub deed : Deed
  pub happens : IsDeed s h deed
  pub gave : Gives s h.now deed given
  pub left : s_then ≡ left_after s h.now deed

abbrev pub steps : RehearsalMachine → Heard → List Given → RehearsalMachine → Type 0
steps m h given m_then = Steps (state_of m) h given (state_of m_then)

-- ---- what was lost, and time

-- it was a line
abbrev pub is_line : Output → Bool
is_line (output.Send by to) = false
is_line output.Print = true
is_line output.Say = false
is_line output.Replace = false

abbrev pub after_loss : RehearsalMachine → Output → RehearsalMachine
after_loss m lost = record {
  alloc = m.alloc;
  seats = m.seats;
  loss = m.loss;
  spread = m.spread;
  chance = m.chance;
  broken = m.broken || is_line lost;
}

-- the earliest moment at which something is due, this one or one of these
abbrev pub earliest : Option ℕ → List Seat → Option ℕ
earliest first [] = first
earliest first (seat ∷ seats) = earliest (earlier first (wakes_of seat)) seats

abbrev pub wakes : RehearsalMachine → Option ℕ
wakes m = earliest None m.seats.items

-- it is over once a line could not be printed
abbrev pub is_over : RehearsalMachine → Bool
is_over m = m.broken
