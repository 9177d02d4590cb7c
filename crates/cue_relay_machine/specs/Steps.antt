-- What a step of the relay gives, and what it knows after it.
use Rattle.std.specs.Prelude.{◌≡◌, ℕ, ◌++◌, Bool, true, false, List, [], ◌∷◌, map, Option, Some, None, slice_get}
use Rattle.std.specs.Prelude.{if◌then◌else◌, length, replicate}
use Rattle.std.specs.Borrow.{Bor}
use Rattle.std.specs.Option.{option_map}
use Rattle.cue_machine.specs.declared.ears.Input.{Input}
use Rattle.cue_machine.specs.declared.ears.Input.TheVariants as input
use Rattle.cue_machine.specs.declared.address.Address as machine
use Rattle.cue_machine.specs.declared.post.Output.{Output}
use Rattle.cue_machine.specs.declared.post.Output.TheVariants as output
use Rattle.cue_machine.specs.Hearing.{Heard}
use Rattle.cue_machine.specs.Posting.{Given, given_as}
use Rattle.cue_relay.specs.declared.claims.Claim.{Claim}
use Rattle.cue_relay.specs.declared.going.Going.{Going}
use Rattle.cue_relay.specs.declared.hearing.News.{News}
use Rattle.cue_relay.specs.declared.messages.Message.{Message}
use Rattle.cue_relay.specs.declared.relaying.Relay.{Relay}
use Rattle.cue_relay.specs.Hearing.{told_of_message, told_of_time}
use Rattle.cue_relay.specs.Relayed.{Answer, comes, goes_on, no_times, times_then}
use Rattle.cue_relay.specs.Telling.{claim_of}
use Rattle.cue_relay_machine.specs.declared.books.Books.{Books}
use Rattle.cue_relay_machine.specs.declared.copies.Waiting.{Waiting}
use Rattle.cue_relay_machine.specs.declared.known.Known.{Known}
use Rattle.cue_relay_machine.specs.declared.machine.RelayMachine.{RelayMachine}
use Rattle.cue_relay_machine.specs.Books.{books_lost, is_due, new_books, next_tick, one_dropped, one_passed, report}
use Rattle.cue_relay_machine.specs.Books.{says_trouble, ticked}
use Rattle.cue_relay_machine.specs.Copies.{after_wake, copies_given, earliest, taken_at}
use Rattle.cue_relay_machine.specs.Places.{across_from, machine_address, opening_at, relay_address}
use Rattle.cue_relay_machine.specs.Texts.{after_time_of, device_line, dropped_line, known_text, take_at, tell_at}
use Rattle.cue_relay_machine.specs.Texts.{trouble_line, unknown}

-- What a relay knows: the routes, the file of its status, when the last datagrams went on, the devices, the GO of each
-- route that is to be said again, whether what it gave last it gave at a wake, and its books.
pub record State : Type 0 where
  pub relay : Relay
  pub file : Option (List ℕ)
  pub meters : List (List ℕ)
  pub known : List Known
  pub waiting : List (Option Waiting)
  pub woken : Bool
  pub books : Books

-- the path of a file, if there is one
abbrev pub path_of : Option (Bor (List ℕ)) → Option (List ℕ)
path_of file = option_map (λ (path : Bor (List ℕ)). path.now) file

abbrev pub state_of : RelayMachine → State
state_of m = record {
  relay = m.relay;
  file = path_of m.file;
  meters = m.meters.items;
  known = m.known.items;
  waiting = m.waiting.items;
  woken = m.woken;
  books = m.books;
}

-- nothing came yet
abbrev pub begun : Relay → Option (List ℕ) → ℕ → State
begun relay file now = record {
  relay = relay;
  file = file;
  meters = no_times relay.routes.now;
  known = map unknown relay.routes.now;
  waiting = replicate (length relay.routes.now) None;
  woken = false;
  books = new_books now;
}

-- what came, as the relay has it
abbrev pub came : ℕ → ℕ → machine.Address → List ℕ → Answer
came now at from bytes = comes now (opening_at at) (relay_address from) bytes

-- ---- lines

-- a line on a device, if there is something to say of it
abbrev pub news_given : List ℕ → Known → Option News → List Given
news_given date k None = []
news_given date k (Some news) = given_as output.Print (device_line date k news) ∷ []

-- a line on what was dropped
abbrev pub report_given : List ℕ → Option ℕ → List Given
report_given date None = []
report_given date (Some count) = given_as output.Print (dropped_line date count) ∷ []

-- ---- a datagram

-- what is said of the device of the route by which this goes on
abbrev pub told_given : List ℕ → Option Known → Message → List Given
told_given date None m = []
told_given date (Some k) m = news_given date k (told_of_message k.contact m)

-- what goes on leaves by the socket across, with the same bytes; what does not is dropped
abbrev pub going_given : List ℕ → List Known → ℕ → List ℕ → Option Going → List Given
going_given date known at bytes None = []
going_given date known at bytes (Some g) =
    given_as (output.Send (across_from at) (machine_address g.way.to)) bytes
    ∷ told_given date (slice_get known (opening_at at).route) g.message

-- and it is noted of its device
abbrev pub known_after : List Known → ℕ → ℕ → Option Going → List Known
known_after known at now None = known
known_after known at now (Some g) = take_at known (opening_at at).route g.message now

-- what a device tells of itself is kept
abbrev pub known_told : List Known → ℕ → ℕ → Option Claim → List Known
known_told known at now None = known
known_told known at now (Some c) = tell_at known (opening_at at).route c now

-- and counted
abbrev pub books_after : Books → Option Going → Books
books_after b None = one_dropped b
books_after b (Some g) = one_passed b

-- but for what a device tells of itself, which is counted nowhere
abbrev pub books_told : Books → Option Claim → Option Going → Books
books_told b None going = books_after b going
books_told b (Some c) going = b

-- and a GO is to be said again
abbrev pub waiting_after : List (Option Waiting) → ℕ → ℕ → List ℕ → Option Going → List (Option Waiting)
waiting_after waiting at now bytes None = waiting
waiting_after waiting at now bytes (Some g) = taken_at waiting (opening_at at).route now g bytes

-- what the relay knows once this came, which goes on so, and tells this of its device
abbrev pub state_after : State → Answer → ℕ → ℕ → List ℕ → Option Going → Option Claim → State
state_after s a now at bytes going claim = record {
  relay = s.relay;
  file = s.file;
  meters = times_then s.relay s.meters a;
  known = known_told (known_after s.known at now going) at now claim;
  waiting = waiting_after s.waiting at now bytes going;
  woken = false;
  books = books_told s.books claim going;
}

-- what the relay knows once a datagram came by this route that does not go on, and tells this of its device
abbrev pub state_heard : State → ℕ → ℕ → Option Claim → State
state_heard s now route None = record s { woken = false; books = one_dropped s.books }
state_heard s now route (Some c) = record s { known = tell_at s.known route c now; woken = false }

-- ---- a tick

-- which devices fall silent
abbrev pub silences_given : List ℕ → ℕ → List Known → List Given
silences_given date now [] = []
silences_given date now (k ∷ ks) = news_given date k (told_of_time k.contact now) ++ silences_given date now ks

-- that the status cannot be written
abbrev pub trouble_given : List ℕ → Books → List Given
trouble_given path b = if says_trouble b then given_as output.Say (trouble_line path) ∷ [] else []

-- the status, if there is a file for it
abbrev pub file_given : Option (List ℕ) → Books → List Known → ℕ → List Given
file_given None b known now = []
file_given (Some path) b known now =
    trouble_given path b ++ given_as output.Replace (known_text now b.counts known) ∷ []

-- what is given at a tick
abbrev pub tick_given : List ℕ → State → ℕ → List Given
tick_given date s now =
    silences_given date now s.known
    ++ (report_given date (report s.books now) ++ file_given s.file s.books (map (after_time_of now) s.known) now)

-- what the relay knows after a tick
abbrev pub state_ticked : State → ℕ → State
state_ticked s now = record s { known = map (after_time_of now) s.known; books = ticked s.books now }

-- ---- a wake

-- what the relay knows once copies were said
abbrev pub state_woken : State → ℕ → State
state_woken s now = record s { waiting = map (after_wake now) s.waiting; woken = true }

-- the copies that are due, and the tick, if that is due
abbrev pub wake_given : List ℕ → State → ℕ → List Given
wake_given date s now = copies_given 0 s.waiting now ++ (if is_due s.books now then tick_given date s now else [])

-- ---- steps

-- what is given for what came
abbrev pub gives : List ℕ → State → ℕ → Input → List ℕ → List Given
gives date s now (input.Datagram at from) bytes =
    going_given date s.known at bytes (goes_on s.relay s.meters (came now at from bytes))
gives date s now (input.Refused at) bytes = []
gives date s now input.Wake bytes = wake_given date s now

-- what the relay knows after it
abbrev pub state_then : State → ℕ → Input → List ℕ → State
state_then s now (input.Datagram at from) bytes =
    state_after s (came now at from bytes) now at bytes (goes_on s.relay s.meters (came now at from bytes))
    (claim_of s.relay (came now at from bytes))
state_then s now (input.Refused at) bytes = s
state_then s now input.Wake bytes = state_woken (if is_due s.books now then state_ticked s now else s) now

-- The law: what goes on of a datagram leaves once, with its own bytes; it is noted of its device, and counted. What a
-- device tells of itself is kept, and changes nothing else. At a
-- wake the copies of a GO are said that are due. At a tick it is said who falls silent and how many were dropped, and
-- the status is written. Nothing else is given. Before each line stands a date.
pub record Steps (s : State) (h : Heard) (given : List Given) (s_then : State) : Type 0 where
  pub date : List ℕ
  pub gave : given ≡ gives date s h.now h.input h.bytes
  pub left : s_then ≡ state_then s h.now h.input h.bytes

abbrev pub steps : RelayMachine → Heard → List Given → RelayMachine → Type 0
steps m h given m_then = Steps (state_of m) h given (state_of m_then)

-- ---- what was lost, and time

-- of what was lost the books alone are changed
abbrev pub after_loss : RelayMachine → Output → RelayMachine
after_loss m lost = record m { books = books_lost m.woken m.books lost }

-- the next tenth of a second, or the next copy that is due
abbrev pub wakes : RelayMachine → Option ℕ
wakes m = Some (earliest (next_tick m.books) m.waiting.items)

-- a relay is never over
abbrev pub is_over : RelayMachine → Bool
is_over m = false
