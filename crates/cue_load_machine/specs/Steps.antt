-- What a step of a load gives, and how far the load has come after it.
use Rattle.std.specs.Prelude.{◌≡◌, ℕ, ℤ, ◌==◌, Bool, false, ◌&&◌, nat_lt, if◌then◌else◌, List, [], ◌∷◌, slice_get}
use Rattle.std.specs.Prelude.{Option, Some, None, Vec, length, min, slice_set, take}
use Rattle.std.specs.Option.{option_map}
use Rattle.std.specs.declared.alloc.Global.{Global}
use Rattle.cue_machine.specs.declared.address.Address.{Address}
use Rattle.cue_machine.specs.declared.ears.Input.{Input}
use Rattle.cue_machine.specs.declared.ears.Input.TheVariants as input
use Rattle.cue_machine.specs.declared.post.Output.{Output}
use Rattle.cue_machine.specs.declared.post.Output.TheVariants as output
use Rattle.cue_machine.specs.Hearing.{Heard}
use Rattle.cue_machine.specs.Posting.{Given, given_as}
use Rattle.cue_desk.specs.declared.replying.Replied.{Replied}
use Rattle.cue_loading.specs.declared.manner.Manner.{Manner}
use Rattle.cue_ask_machine.specs.Answers.{answer_in}
use Rattle.cue_ask_machine.specs.Steps.{home}
use Rattle.cue_load_machine.specs.declared.asks.Ask.{Ask}
use Rattle.cue_load_machine.specs.declared.asks.Form.{Form}
use Rattle.cue_load_machine.specs.declared.asks.Form.TheVariants as form
use Rattle.cue_load_machine.specs.declared.deciding.Came.{Came}
use Rattle.cue_load_machine.specs.declared.deciding.Came.TheVariants as came
use Rattle.cue_load_machine.specs.declared.machine.LoadMachine.{LoadMachine}
use Rattle.cue_load_machine.specs.declared.stage.LoadEnd.TheVariants as end
use Rattle.cue_load_machine.specs.declared.stage.Stage.{Stage}
use Rattle.cue_load_machine.specs.declared.stage.Stage.TheVariants as stage
use Rattle.cue_load_machine.specs.declared.stage.Try.{Try}
use Rattle.cue_load_machine.specs.declared.stage.Waits.{Waits}
use Rattle.cue_load_machine.specs.Asks.{alone_in, covers, is_alone, sendings, stops_by}
use Rattle.cue_load_machine.specs.Stages as stages
use Rattle.cue_load_machine.specs.Stages.{again, is_late, late_at, next_place, next_socket, one_less, place_of, sent}

-- the bytes of a text, if there is one
abbrev pub bytes_of : Option (Vec ℕ Global) → Option (List ℕ)
bytes_of v = option_map (λ (bytes : Vec ℕ Global). bytes.items) v

-- What a load asks, and how far it has come.
pub record State : Type 0 where
  pub port : ℕ
  pub manner : Manner
  pub copy : Option (List ℕ)
  pub asks : List Ask
  pub answers : List (Option Replied)
  pub at : Stage

abbrev pub state_of : LoadMachine → State
state_of m = record {
  port = m.port;
  manner = m.manner;
  copy = bytes_of m.copy;
  asks = m.asks.items;
  answers = m.answers.items;
  at = m.stage;
}

-- ---- what is given

-- the text of the copy, if there is one
abbrev pub copies : List ℕ → Given
copies text = given_as output.Replace text

abbrev pub copy_given : Option (List ℕ) → List Given
copy_given None = []
copy_given (Some text) = copies text ∷ []

-- a message, by a socket, to the controller's port of this machine
abbrev pub message_given : ℕ → Ask → ℕ → Given
message_given port a socket = given_as (output.Send socket (home port)) a.letter.message.items

abbrev pub try_given : ℕ → Option Ask → Try → List Given
try_given port None of = []
try_given port (Some a) of = message_given port a of.socket ∷ []

abbrev pub gives_at : State → Stage → List Given
gives_at s stage.Copies = copy_given s.copy
gives_at s (stage.Sends of) = try_given s.port (slice_get s.asks of.place) of
gives_at s (stage.Waits w) = []
gives_at s (stage.Over e) = []

-- first the copy, if there is one, then the message whose turn it is
abbrev pub gives : State → List Given
gives s = gives_at s s.at

-- ---- what is told

-- it came at this socket, from the controller's port of this machine
abbrev pub is_theirs : ℕ → ℕ → ℕ → Address → Bool
is_theirs port socket at from = (at == socket) && ((from.host == (home port).host) && (from.port == (home port).port))

-- what is heard replies this to a message that was sent by a socket
abbrev pub reply_to : ℕ → Ask → ℕ → Input → List ℕ → Option Replied
reply_to port a socket (input.Datagram at from) bytes =
    if is_theirs port socket at from then answer_in a.letter bytes else None
reply_to port a socket (input.Refused at) bytes = None
reply_to port a socket input.Wake bytes = None

-- it is a reply; else its time may have passed
abbrev pub came_by : Form → ℕ → ℕ → Option Replied → Came
came_by f since now (Some r) = came.Reply r
came_by f since now None = if is_late f since now then came.Silence else came.Nothing

-- nobody listens where this socket sends, as is heard
abbrev pub is_refused : ℕ → Input → Bool
is_refused socket (input.Datagram at from) = false
is_refused socket (input.Refused at) = at == socket
is_refused socket input.Wake = false

abbrev pub came_of : Form → ℕ → ℕ → Bool → Option Replied → Came
came_of f since now refused reply = if refused then came.Nobody else came_by f since now reply

abbrev pub came_at : ℕ → Option Ask → Waits → Heard → Came
came_at port None w h = came.Nothing
came_at port (Some a) w h =
    came_of a.form w.since h.now (is_refused w.of.socket h.input) (reply_to port a w.of.socket h.input h.bytes)

-- ---- what comes after it

-- the message of this place is to be sent; if there is none, all is done
abbrev pub begins_with : Option Ask → ℕ → ℕ → Stage
begins_with None place socket = stage.Over end.Done
begins_with (Some a) place socket =
    stage.Sends (record { place = place; left = sendings a.form; socket = socket })

abbrev pub begins : List Ask → ℕ → ℕ → Stage
begins asks place socket = begins_with (slice_get asks place) place socket

-- where a load begins: with the copy, if there is one
abbrev pub first_stage : List Ask → Option (List ℕ) → Stage
first_stage asks None = begins asks 0 0
first_stage asks (Some text) = stage.Copies

-- all its replies came: the next one begins, after those that ask the same
abbrev pub answered : List Ask → Ask → Try → Stage
answered asks a of = begins asks (next_place of.place (covers a.form)) of.socket

-- a reply stops the load, or is waited for no more; the last of them ends the message
abbrev pub replied_by : List Ask → Ask → Waits → ℕ → Option ℤ → Stage
replied_by asks a w now (Some code) = stage.Over (end.Refused w.of.place code)
replied_by asks a w now None = if nat_lt 1 w.rest then stage.Waits (one_less w now) else answered asks a w.of

abbrev pub replied : List Ask → Ask → Waits → ℕ → Replied → Stage
replied asks a w now r = replied_by asks a w now (stops_by a.refusal r)

-- nobody replied, and it may not be sent again: what asks several is asked one by one, else the load is over
abbrev pub given_up : List Ask → Form → Try → Stage
given_up asks form.Alone of = stage.Over (end.Silent of.place)
given_up asks (form.Together count) of = begins asks (next_place of.place 0) (next_socket of.socket)

-- nobody replied in time: it is sent again, if it may be
abbrev pub silent : List Ask → Form → Try → Stage
silent asks f of = if nat_lt 0 of.left then stage.Sends (again of) else given_up asks f of

-- that nobody listens ends the load at once
abbrev pub waited : List Ask → Ask → Waits → ℕ → Came → Stage
waited asks a w now came.Nothing = stage.Waits w
waited asks a w now (came.Reply r) = replied asks a w now r
waited asks a w now came.Nobody = stage.Over (end.Nobody w.of.place)
waited asks a w now came.Silence = silent asks a.form w.of

abbrev pub waited_at : List Ask → Option Ask → Waits → ℕ → Came → Stage
waited_at asks None w now c = stage.Waits w
waited_at asks (Some a) w now c = waited asks a w now c

-- a message has left
abbrev pub sent_at : Option Ask → Try → ℕ → Stage
sent_at None of now = stage.Over end.Done
sent_at (Some a) of now = stage.Waits (sent a.form of now)

-- a reply is kept at its place
abbrev pub noted : List (Option Replied) → ℕ → Came → List (Option Replied)
noted answers slot came.Nothing = answers
noted answers slot (came.Reply r) = slice_set answers slot (Some r)
noted answers slot came.Nobody = answers
noted answers slot came.Silence = answers

-- a place for the reply to each, and nothing was replied yet
abbrev pub none_told : {R : Type 0} → List Ask → List (Option R)
none_told [] = []
none_told (a ∷ asks) = None ∷ none_told asks

-- what is kept of those that ask one thing, in order
abbrev pub told_of : List Ask → List (Option Replied) → List (Option Replied)
told_of (a ∷ asks) (r ∷ answers) =
    if is_alone a.form then r ∷ told_of asks answers else told_of asks answers
told_of [] answers = []
told_of (a ∷ asks) [] = []

-- ---- steps

-- the same load, at this stage
abbrev pub with_stage : State → Stage → State
with_stage s at =
    record { port = s.port; manner = s.manner; copy = s.copy; asks = s.asks; answers = s.answers; at = at }

abbrev pub waited_with : State → Waits → Option Ask → ℕ → Came → State
waited_with s w found now c = record {
  port = s.port;
  manner = s.manner;
  copy = s.copy;
  asks = s.asks;
  answers = noted s.answers w.slot c;
  at = waited_at s.asks found w now c;
}

abbrev pub after_wait : State → Waits → Heard → State
after_wait s w h =
    let found = slice_get s.asks w.of.place in waited_with s w found h.now (came_at s.port found w h)

abbrev pub then_at : State → Heard → Stage → State
then_at s h stage.Copies = with_stage s (begins s.asks 0 0)
then_at s h (stage.Sends of) = with_stage s (sent_at (slice_get s.asks of.place) of h.now)
then_at s h (stage.Waits w) = after_wait s w h
then_at s h (stage.Over e) = with_stage s (stage.Over e)

-- what comes after this was heard
abbrev pub state_then : State → Heard → State
state_then s h = then_at s h s.at

-- The law: what is to be given is given, and nothing else; then what is heard decides.
pub record Steps (m : LoadMachine) (h : Heard) (given : List Given) (m_then : LoadMachine) : Type 0 where
  pub gave : given ≡ gives (state_of m)
  pub left : state_of m_then ≡ state_then (state_of m) h

-- ---- what was lost, and time

abbrev pub after_loss : LoadMachine → Output → LoadMachine
after_loss m out = record {
  alloc = m.alloc;
  port = m.port;
  manner = m.manner;
  copy = m.copy;
  asks = m.asks;
  answers = m.answers;
  stage = stages.lost m.manner m.stage out;
}

abbrev pub late_of : Option Ask → Waits → ℕ
late_of None w = 0
late_of (Some a) w = late_at a.form w.since

abbrev pub wakes_at : LoadMachine → Stage → Option ℕ
wakes_at m stage.Copies = Some 0
wakes_at m (stage.Sends of) = Some 0
wakes_at m (stage.Waits w) = Some (late_of (slice_get m.asks.items w.of.place) w)
wakes_at m (stage.Over e) = None

abbrev pub wakes : LoadMachine → Option ℕ
wakes m = wakes_at m m.stage

-- how many things are done: those before the message whose turn it is, or at which it ended
abbrev pub done : LoadMachine → ℕ
done m =
    let all : ℕ = length m.asks.items in alone_in (take (min (place_of all m.stage) all) m.asks.items)

abbrev pub is_over : LoadMachine → Bool
is_over m = stages.is_over m.stage
