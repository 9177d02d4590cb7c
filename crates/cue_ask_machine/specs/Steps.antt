-- What a step of a question gives, and how far the question has come after it.
use Rattle.std.specs.Prelude.{◌≡◌, ℕ, ◌*◌, ◌+◌, ◌^◌, ◌==◌, Bool, true, false, ◌&&◌, if◌then◌else◌, List, [], ◌∷◌}
use Rattle.std.specs.Prelude.{Option, Some, None, Vec}
use Rattle.std.specs.declared.alloc.Global.{Global}
use Rattle.std.specs.Borrow.{Bor}
use Rattle.std.specs.Option.{option_map}
use Rattle.cue_machine.specs.declared.address.Address.{Address}
use Rattle.cue_machine.specs.declared.ears.Input.{Input}
use Rattle.cue_machine.specs.declared.ears.Input.TheVariants as input
use Rattle.cue_machine.specs.declared.post.Output.{Output}
use Rattle.cue_machine.specs.declared.post.Output.TheVariants as output
use Rattle.cue_machine.specs.Hearing.{Heard}
use Rattle.cue_machine.specs.Posting.{Given, given_as}
use Rattle.cue_desk.specs.declared.orders.DeskCommand.{DeskCommand}
use Rattle.cue_desk.specs.declared.replying.Replied.{Replied}
use Rattle.cue_ask_machine.specs.declared.machine.AskMachine.{AskMachine}
use Rattle.cue_ask_machine.specs.declared.stage.AskEnd.{AskEnd}
use Rattle.cue_ask_machine.specs.declared.stage.AskEnd.TheVariants as end
use Rattle.cue_ask_machine.specs.declared.stage.Stage.{Stage}
use Rattle.cue_ask_machine.specs.declared.stage.Stage.TheVariants as stage
use Rattle.cue_ask_machine.specs.Answers.{answer_in}
use Rattle.cue_ask_machine.specs.Letters.{is_status}
use Rattle.cue_ask_machine.specs.Naming.{SaysWho}
use Rattle.cue_ask_machine.specs.Stages.{silent_at, stage_lost, stage_over, stage_wakes}

-- ---- the name

-- the text of a name, if there is one
abbrev pub text_of : Option (Bor (List ℕ)) → Option (List ℕ)
text_of name = option_map (λ (text : Bor (List ℕ)). text.now) name

-- the bytes of a datagram, if there is one
abbrev pub bytes_of : Option (Vec ℕ Global) → Option (List ℕ)
bytes_of v = option_map (λ (bytes : Vec ℕ Global). bytes.items) v

-- these bytes are the message that says who asks, if there is a name and it is no question for the status; else there
-- are none
abbrev pub IsNameFor : DeskCommand → Option (List ℕ) → Option (List ℕ) → Type 0
IsNameFor o None said = said ≡ None
IsNameFor o (Some name) said = by (is_status o) said
  where
    by : Bool → Option (List ℕ) → Type 0
    by true said = said ≡ None
    by false None = ⊥
    by false (Some bytes) = SaysWho name bytes

-- ---- what is given

-- this port of this machine: 127.0.0.1
abbrev pub home_host : ℕ
home_host = 127 * 2 ^ 24 + 1

abbrev pub home : ℕ → Address
home port = record { host = home_host; port = port }

-- these bytes, by the one socket, to this port of this machine
abbrev pub sends : ℕ → List ℕ → Given
sends port bytes = given_as (output.Send 0 (home port)) bytes

-- the name, if there is one
abbrev pub name_given : ℕ → Option (List ℕ) → List Given
name_given port None = []
name_given port (Some name) = sends port name ∷ []

-- the message
abbrev pub message_given : AskMachine → Given
message_given m = sends m.port m.letter.message.items

abbrev pub gives_at : AskMachine → Stage → List Given
gives_at m stage.Names = name_given m.port (bytes_of m.name)
gives_at m (stage.Asks again) = message_given m ∷ []
gives_at m (stage.Waits since again) = []
gives_at m (stage.Over e) = []

-- first the name, then the message, and then nothing
abbrev pub gives : AskMachine → List Given
gives m = gives_at m m.stage

-- ---- what is told

-- it came at the one socket, from this port of this machine
abbrev pub is_theirs : ℕ → ℕ → Address → Bool
is_theirs port at from = (at == 0) && ((from.host == home_host) && (from.port == port))

-- what a datagram answers to the message
abbrev pub answer_at : AskMachine → ℕ → Address → List ℕ → Option Replied
answer_at m at from bytes = if is_theirs m.port at from then answer_in m.letter bytes else None

-- an answer ends it, and else time
abbrev pub ended_by : ℕ → ℕ → Option Replied → Option AskEnd
ended_by since now None = silent_at since now
ended_by since now (Some r) = Some (end.Replied r)

-- that nobody listens there ends it, and else time
abbrev pub refused_by : ℕ → ℕ → ℕ → Option AskEnd
refused_by since now at = if at == 0 then Some end.Nobody else silent_at since now

-- how a question whose message left at a moment ends by what is heard now; none if it goes on
abbrev pub decided_by : AskMachine → ℕ → ℕ → Input → List ℕ → Option AskEnd
decided_by m since now (input.Datagram at from) bytes = ended_by since now (answer_at m at from bytes)
decided_by m since now (input.Refused at) bytes = refused_by since now at
decided_by m since now input.Wake bytes = silent_at since now

abbrev pub decides : AskMachine → ℕ → Heard → Option AskEnd
decides m since h = decided_by m since h.now h.input h.bytes

-- ---- steps

abbrev pub waited : ℕ → Bool → Option AskEnd → Stage
waited since again None = stage.Waits since again
waited since again (Some e) = stage.Over e

-- how far it has come after this was heard: the message leaves now, and its reply is waited for
abbrev pub then_at : AskMachine → Heard → Stage → Stage
then_at m h stage.Names = stage.Asks false
then_at m h (stage.Asks again) = stage.Waits h.now again
then_at m h (stage.Waits since again) = waited since again (decides m since h)
then_at m h (stage.Over e) = stage.Over e

abbrev pub stage_then : AskMachine → Heard → Stage
stage_then m h = then_at m h m.stage

-- the same question, at this stage
abbrev pub with_stage : AskMachine → Stage → AskMachine
with_stage m s = record { alloc = m.alloc; letter = m.letter; name = m.name; port = m.port; stage = s }

-- The law: the name is given, if there is one, then the message, and nothing else; then what is heard decides.
pub record Steps (m : AskMachine) (h : Heard) (given : List Given) (m_then : AskMachine) : Type 0 where
  pub gave : given ≡ gives m
  pub left : m_then ≡ with_stage m (stage_then m h)

-- ---- what was lost, and time

abbrev pub after_loss : AskMachine → Output → AskMachine
after_loss m lost = with_stage m (stage_lost m.stage)

abbrev pub wakes : AskMachine → Option ℕ
wakes m = stage_wakes m.stage

abbrev pub is_over : AskMachine → Bool
is_over m = stage_over m.stage
