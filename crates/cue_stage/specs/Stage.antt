-- A stage: a controller with its store, a network, and devices. What may happen to it, and what has happened.
--
-- All that a stage is follows from how it began and from what happened since, the latest first. The network has each
-- datagram that the controller ever handed to it, and may deliver it to any device, now, later, again or never.
use Rattle.std.specs.Prelude.{ℕ, if◌then◌else◌, List, [], ◌∷◌, ◌++◌, Option, nat_eq, IsTrue}
use Rattle.std.specs.List.{Contains}
use Rattle.cue_show.specs.DeviceNumber.{is_device}
use Rattle.cue_core.specs.State.{empty_state}
use Rattle.cue_outbox.specs.Sending.{datagrams}
use Rattle.cue_engine.specs.Incidents.{Incident, Store, Permits, left_by_all}
use Rattle.cue_engine.specs.Headline.{BeginsWith, all_handed}
use Rattle.cue_device.specs.declared.asked.Command.{Command}
use Rattle.cue_device.specs.declared.asked.Task.{Task}
use Rattle.cue_device.specs.declared.words.Answer.{Answer}
use Rattle.cue_device.specs.declared.words.Order.{Order}
use Rattle.cue_device.specs.Datagrams.{IsFor}
use Rattle.cue_device.specs.Hearing.{device_at_rest}
use Rattle.cue_device.specs.Histories.{hears, KeepsNumber, answers_of, orders_of}
use Rattle.cue_device.specs.Histories as device
use Rattle.cue_stage.specs.Tasks.{tasks_of}

-- How a stage begins: this store, and each device with its machine at rest. The numbers up to `over d` are over for
-- the device d.
pub record Beginning : Type 0 where
  pub store : Store
  pub over : ℕ → ℕ

-- What happens on a stage. The store meets an incident: an input that anybody sends is taken, datagrams are handed to
-- the network, a stop comes anywhere, a recovery. Or something befalls the device d: it hears an order, its machine
-- reports something, it restarts.
pub data Happening : Type 0 where
  meets : Incident → Happening
  befalls : (d : ℕ) → device.Happening → Happening

-- ---- what has happened

-- the incidents of the store, the first one first
abbrev pub incidents : List Happening → List Incident
incidents [] = []
incidents (meets i ∷ past) = incidents past ++ i ∷ []
incidents (befalls d what ∷ past) = incidents past

-- what befell the device d, the latest first
abbrev pub life_of : ℕ → List Happening → List device.Happening
life_of d [] = []
life_of d (meets i ∷ past) = life_of d past
life_of d (befalls e what ∷ past) = if nat_eq e d then what ∷ life_of d past else life_of d past

-- the store by now
abbrev pub store_after : Beginning → List Happening → Store
store_after from past = left_by_all from.store (incidents past)

-- all datagrams that the controller has handed to the network by now, each with its port and its bytes
abbrev pub handed_by : Beginning → List Happening → List (ℕ × List ℕ)
handed_by from past = datagrams (all_handed from.store (incidents past))

-- what the device d has ordered its machine by now, the latest first
abbrev pub orders_by : Beginning → List Happening → ℕ → List Order
orders_by from past d = orders_of (device_at_rest d (from.over d)) (life_of d past)

-- the same, each order with the task that it was for
abbrev pub tasks_by : Beginning → List Happening → ℕ → List (Order × Option Task)
tasks_by from past d = tasks_of (device_at_rest d (from.over d)) (life_of d past)

-- what the device d has answered by now, the latest first
abbrev pub answers_by : Beginning → List Happening → ℕ → List Answer
answers_by from past d = answers_of (device_at_rest d (from.over d)) (life_of d past)

-- ---- what may happen

-- The network may deliver this order to the device d: a datagram that was handed to it is that order to d.
pub record MayBeDelivered (handed : List (ℕ × List ℕ)) (d : ℕ) (c : Command) : Type 0 where
  pub datagram : ℕ × List ℕ
  pub was_handed : Contains handed datagram
  pub is_command : IsFor d datagram.1 c

-- A device hears the orders that the network delivers. All else may befall it at any time, and a restart hands in
-- the number that it kept: one at least that of each order before.
abbrev pub MayBefall : Beginning → List Happening → ℕ → device.Happening → Type 0
MayBefall from past d (hears c) = IsTrue (is_device d) × MayBeDelivered (handed_by from past) d c
MayBefall from past d what = KeepsNumber what (orders_by from past d)

-- The store meets what the contracts of its calls permit.
abbrev pub May : Beginning → List Happening → Happening → Type 0
May from past (meets i) = Permits (store_after from past) i
May from past (befalls d what) = MayBefall from past d what

-- The store begins with an empty show, formed or not yet, and then all happens in turn.
abbrev pub Happens : Beginning → List Happening → Type 0
Happens from [] = BeginsWith from.store empty_state
Happens from (h ∷ past) = May from past h × Happens from past
