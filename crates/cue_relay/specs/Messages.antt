-- What may go through the relay: orders and replies of the controller, and answers of a device.
use Rattle.std.specs.Prelude.{◌≡◌, ℕ, pos, ◌-◌, Bool, true, ◌&&◌, if◌then◌else◌, List, [], ◌∷◌, ◌++◌, length, drop}
use Rattle.std.specs.Prelude.{codes, nat_eq, nat_lt, nat_le, Option, None, Some, Result, Ok, Err, option_and_then}
use Rattle.std.specs.Int.{w32, from_be_bytes}
use Rattle.std.specs.List.{find, starts_with}
use Rattle.std.specs.Option.{option_map}
use Rattle.cue_osc.specs.declared.fault.Fault.{Fault}
use Rattle.cue_osc.specs.Argument.{int, text, blob}
use Rattle.cue_osc.specs.Content.{Content, message}
use Rattle.cue_osc.specs.Reading.{datagram_at}
use Rattle.cue_osc.specs.Spelling.{osc_string}
use Rattle.cue_show.specs.declared.limits.TheConstants.{MAX_PART_BYTES}
use Rattle.cue_show.specs.Number.{is_cue_number, same_text}
use Rattle.cue_device.specs.declared.asked.Command.{Command}
use Rattle.cue_device.specs.declared.asked.Command.TheVariants as command
use Rattle.cue_device.specs.declared.asked.Task.{Task}
use Rattle.cue_device.specs.declared.reading.TheConstants.{MAX_NUMBER}
use Rattle.cue_device.specs.declared.words.Answer.{Answer}
use Rattle.cue_device.specs.declared.words.Answer.TheVariants.{StandingBy, Complete, Cancelled, Abort}
use Rattle.cue_device.specs.Datagrams.{IsFor, IsNumber, answer_content, answer_text, command_text}
use Rattle.cue_device.specs.Hearing.{answered_for, seq_of, task_of}
use Rattle.cue_relay.specs.declared.messages.Message.{Message}
use Rattle.cue_relay.specs.declared.messages.Message.TheVariants as says
use Rattle.cue_relay.specs.declared.route.Side.{Side}
use Rattle.cue_relay.specs.declared.route.Side.TheVariants.{Controller, Stage}
use Rattle.cue_relay.specs.declared.status.Ordered.TheVariants as ordered

-- ---- what is meant

-- the datagram is an answer of the device d: one of the four, with the number of an attempt, as one plain message
abbrev pub IsAnswerOf : ℕ → List ℕ → Type 0
IsAnswerOf d bytes = (a : Answer) × IsNumber (answered_for a) × (datagram_at bytes ≡ Ok (answer_content d a))

-- the datagram is an order of the controller to the device d
abbrev pub IsOrderTo : ℕ → List ℕ → Type 0
IsOrderTo d bytes = (c : Command) × IsFor d bytes c

-- how a reply of the controller begins: its address, and its tags
abbrev pub reply_head : List ℕ
reply_head = osc_string (codes "/reply") ++ osc_string (codes ",siiii")

-- the datagram is a reply of the controller
abbrev pub IsReply : List ℕ → Type 0
IsReply bytes = (rest : List ℕ) × (bytes ≡ reply_head ++ rest)

-- ---- answers

-- an attempt may have this number
abbrev pub is_attempt : ℕ → Bool
is_attempt q = nat_le 1 q && nat_le q MAX_NUMBER

-- the datagram is this answer of the device d, byte for byte
abbrev pub spells : ℕ → List ℕ → Answer → Bool
spells d bytes a = same_text bytes (answer_text d a)

-- the number in the last four bytes
abbrev pub last_number : List ℕ → Option ℕ
last_number bytes =
    if nat_lt (length bytes) 4 then None else Some (from_be_bytes w32 (drop (length bytes - 4) bytes))

-- the four answers for an attempt
abbrev pub four_answers : ℕ → List Answer
four_answers q = StandingBy q ∷ Complete q ∷ Cancelled q ∷ Abort q ∷ []

-- which of the four answers with this number the datagram is
abbrev pub answer_with : ℕ → List ℕ → ℕ → Option Answer
answer_with d bytes q = if is_attempt q then find (spells d bytes) (four_answers q) else None

-- the answer of the device d that the datagram is
abbrev pub answer_in : ℕ → List ℕ → Option Answer
answer_in d bytes = option_and_then (answer_with d bytes) (last_number bytes)

-- ---- orders

-- the order that a message reads as
abbrev pub order_read : Content → Option Command
order_read (message a (int (pos q) ∷ int (pos d) ∷ [])) =
    if same_text a (codes "/msc/go_2pc") then Some (command.Go q) else Some (command.Cancel q)
order_read (message a (int (pos q) ∷ int (pos d) ∷ text cue ∷ blob bytes ∷ [])) =
    Some (command.Standby q (record { cue = cue; bytes = bytes }))
order_read _ = None

-- the order that a datagram reads as
abbrev pub order_at : Result Content Fault → Option Command
order_at (Ok c) = order_read c
order_at (Err e) = None

-- if there is a task, it is one that a cue may have
abbrev pub is_task : Option Task → Bool
is_task None = true
is_task (Some t) = is_cue_number t.cue && nat_le (length t.bytes) MAX_PART_BYTES

-- the datagram is this order to the device d, byte for byte, and the controller may send it
abbrev pub is_order : ℕ → List ℕ → Command → Bool
is_order d bytes c = is_attempt (seq_of c) && (is_task (task_of c) && same_text bytes (command_text d c))

abbrev pub kept_if : {X : Type 0} → (X → Bool) → X → Option X
kept_if p x = if p x then Some x else None

-- the order to the device d that the datagram is
unfoldable pub order_in : ℕ → List ℕ → Option Command
order_in d bytes = option_and_then (kept_if (is_order d bytes)) (order_at (datagram_at bytes))

-- ---- what a datagram says

-- an order, without the task of a standby
abbrev pub order_of : Command → Message
order_of (command.Standby q t) = says.Order ordered.Standby q
order_of (command.Go q) = says.Order ordered.Go q
order_of (command.Cancel q) = says.Order ordered.Cancel q

-- the datagram begins as a reply does
abbrev pub is_reply : List ℕ → Bool
is_reply bytes = starts_with nat_eq bytes reply_head

-- what the controller says to the device d
abbrev pub said_in : ℕ → List ℕ → Option Message
said_in d bytes = if is_reply bytes then Some says.Reply else option_map order_of (order_in d bytes)

-- what the device d answers
abbrev pub answered_in : ℕ → List ℕ → Option Message
answered_in d bytes = option_map says.Answer (answer_in d bytes)

-- what a datagram says that came at this side of the route of the device d; none if it says nothing that may go on
abbrev pub message_in : Side → ℕ → List ℕ → Option Message
message_in Controller d bytes = said_in d bytes
message_in Stage d bytes = answered_in d bytes
