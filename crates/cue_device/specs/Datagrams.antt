-- The orders to a device and its answers as datagrams: what each is as an OSC message, and its bytes.
use Rattle.std.specs.Prelude.{◌≡◌, ◌≢◌, ◌≤◌, ℕ, pos, List, [], ◌∷◌, ◌++◌, length, codes, decimal, IsTrue, ◌⊎◌, Option}
use Rattle.std.specs.Prelude.{Some, None, Result, Ok}
use Rattle.cue_osc.specs.declared.fault.Fault.{Fault}
use Rattle.cue_osc.specs.Argument.{Argument, int, text, blob}
use Rattle.cue_osc.specs.Content.{Content, message}
use Rattle.cue_osc.specs.Spelling.{osc_string}
use Rattle.cue_osc.specs.Writing.{text_of}
use Rattle.cue_show.specs.declared.limits.TheConstants.{MAX_PART_BYTES}
use Rattle.cue_show.specs.Number.{is_cue_number}
use Rattle.cue_device.specs.declared.asked.Command.{Command}
use Rattle.cue_device.specs.declared.asked.Command.TheVariants.{Standby, Go, Cancel}
use Rattle.cue_device.specs.declared.asked.Task.{Task}
use Rattle.cue_device.specs.declared.reading.TheConstants.{MAX_NUMBER}
use Rattle.cue_device.specs.declared.words.Answer.{Answer}
use Rattle.cue_device.specs.declared.words.Answer.TheVariants.{StandingBy, Complete, Cancelled, Abort}
use Rattle.cue_device.specs.declared.words.Order.{Order}
use Rattle.cue_device.specs.declared.hearing.Device.{Device}
use Rattle.cue_device.specs.Hearing.{seq_of, task_of, answered_for, after_command, after_reply, what_comes_of}

-- a number as an argument
abbrev pub number : ℕ → Argument
number n = int (pos n)

-- ---- orders

-- an order to the device d as an OSC message
abbrev pub command_content : ℕ → Command → Content
command_content d (Standby q task) = message (codes "/msc/standby")
    (number q ∷ number d ∷ text task.cue ∷ blob task.bytes ∷ [])
command_content d (Go q) = message (codes "/msc/go_2pc") (number q ∷ number d ∷ [])
command_content d (Cancel q) = message (codes "/msc/cancel") (number q ∷ number d ∷ [])

-- and its bytes
unfoldable pub command_text : ℕ → Command → List ℕ
command_text d c = text_of (command_content d c)

-- a number that an attempt may have
abbrev pub IsNumber : ℕ → Type 0
IsNumber q = (1 ≤ q) × (q ≤ MAX_NUMBER)

-- the number of a cue, and bytes that a part may have
pub record IsTask (task : Task) : Type 0 where
  pub cue : IsTrue (is_cue_number task.cue)
  pub short : length task.bytes ≤ MAX_PART_BYTES

-- if there is a task, it is one
abbrev pub HasTask : Option Task → Type 0
HasTask None = Unit {0}
HasTask (Some task) = IsTask task

-- an order that a controller may send
pub record IsCommand (c : Command) : Type 0 where
  pub numbered : IsNumber (seq_of c)
  pub tasked : HasTask (task_of c)

-- the datagram is this order to the device d
pub record IsFor (d : ℕ) (datagram : List ℕ) (c : Command) : Type 0 where
  pub is_command : IsCommand c
  pub text : datagram ≡ command_text d c

-- the datagram is no order to the device d
abbrev pub IsForNone : ℕ → List ℕ → Type 0
IsForNone d datagram = (c : Command) → IsFor d datagram c → ⊥

-- ---- answers

-- the last part of an answer's address
abbrev pub verb : Answer → List ℕ
verb (StandingBy q) = codes "/standing_by"
verb (Complete q) = codes "/complete"
verb (Cancelled q) = codes "/cancelled"
verb (Abort q) = codes "/abort"

-- the address of an answer of the device d
abbrev pub answer_address : ℕ → Answer → List ℕ
answer_address d answer = (codes "/device/" ++ decimal d) ++ verb answer

-- an answer of the device d as an OSC message
abbrev pub answer_content : ℕ → Answer → Content
answer_content d answer = message (answer_address d answer) (number (answered_for answer) ∷ [])

-- and its bytes
unfoldable pub answer_text : ℕ → Answer → List ℕ
answer_text d answer = text_of (answer_content d answer)

-- the bytes of an answer, and none if there is nothing to answer
abbrev pub answered_text : ℕ → Option Answer → List ℕ
answered_text d None = []
answered_text d (Some answer) = answer_text d answer

-- ---- replies

-- how a reply of the controller to an abort of the device d begins: its address, its tags, and the abort's address
abbrev pub reply_head : ℕ → List ℕ
reply_head d = osc_string (codes "/reply") ++ (osc_string (codes ",siiii") ++ osc_string (answer_address d (Abort 0)))

-- the datagram is a reply to an abort of the device d: so it begins, and four numbers follow
pub record IsReply (d : ℕ) (datagram : List ℕ) : Type 0 where
  pub counts : List ℕ
  pub four : length counts ≡ 16
  pub text : datagram ≡ reply_head d ++ counts

-- ---- what a datagram makes of a device

-- it is this order: the device hears it, and sends the answer
pub record HearsCommand (datagram : List ℕ) (old new : Device) (order : Option Order) (sent : List ℕ) : Type 0 where
  pub command : Command
  pub is_for : IsFor old.number datagram command
  pub state : new ≡ after_command command old
  pub ordered : order ≡ (what_comes_of command old).order
  pub answered : sent ≡ answered_text old.number (what_comes_of command old).answer

-- it is a reply to an abort of the device: the device hears it
pub record HearsReply (datagram : List ℕ) (old new : Device) (order : Option Order) (sent : List ℕ) : Type 0 where
  pub is_reply : IsReply old.number datagram
  pub state : new ≡ after_reply old
  pub ordered : order ≡ None
  pub answered : sent ≡ []

-- it is neither: nothing changes, nothing is ordered, and nothing is sent
pub record Ignores (datagram : List ℕ) (old new : Device) (order : Option Order) (sent : List ℕ) : Type 0 where
  pub no_command : IsForNone old.number datagram
  pub no_reply : IsReply old.number datagram → ⊥
  pub state : new ≡ old
  pub ordered : order ≡ None
  pub answered : sent ≡ []

-- one of the three
abbrev pub HearsDatagram : List ℕ → Device → Device → Option Order → List ℕ → Type 0
HearsDatagram datagram old new order sent = HearsCommand datagram old new order sent
    ⊎ (HearsReply datagram old new order sent ⊎ Ignores datagram old new order sent)

-- ---- what is found at the front of bytes

-- a function finds what reading has, and nothing if reading has nothing
abbrev pub Finds : {X Y : Type 0} → (X → Y) → Option X → Result Y Fault → Type 0
Finds view (Some x) read = read ≡ Ok (view x)
Finds view None read = (y : _) → read ≢ Ok y
