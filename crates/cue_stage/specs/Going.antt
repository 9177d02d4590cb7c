-- Going: that a cue that can go does go. What ticks, devices and answers do for an attempt that was given or given up.
use Rattle.std.specs.Prelude.{◌≡◌, ◌≤◌, ℕ, Bool, true, false, ◌&&◌, List, [], ◌∷◌, ◌++◌, None, Some, nat_eq, IsTrue}
use Rattle.std.specs.List.{Contains, list_any}
use Rattle.std.specs.Option.{option_map_or}
use Rattle.cue_show.specs.Devices.{is_among}
use Rattle.cue_show.specs.Show.{port_of}
use Rattle.cue_exchange.specs.declared.attempt.Attempt.{Attempt}
use Rattle.cue_exchange.specs.Live.{attempt_of}
use Rattle.cue_core.specs.declared.command.AnswerKind.{AnswerKind}
use Rattle.cue_core.specs.declared.command.AnswerKind.TheVariants as answer_kind
use Rattle.cue_core.specs.declared.event.Event.{Event}
use Rattle.cue_core.specs.declared.command.Command.TheVariants as command
use Rattle.cue_core.specs.declared.event.Event.TheVariants as event
use Rattle.cue_core.specs.Batches.{is_decided_in}
use Rattle.cue_core.specs.Judge.{judgement_of, made_by}
use Rattle.cue_core.specs.Pending.{Order, go_2pc, cancel}
use Rattle.cue_core.specs.Safety.{is_order_to}
use Rattle.cue_core.specs.State.{ShowState, is_state}
use Rattle.cue_core.specs.Steps.{after_events}
use Rattle.cue_outbox.specs.Sending.{Send, datagrams, order}
use Rattle.cue_engine.specs.Attempts.{is_order_with}
use Rattle.cue_engine.specs.Given.{Input, datagram, tick, given_of}
use Rattle.cue_engine.specs.Headline.{AreKept, HasState, MayRead}
use Rattle.cue_engine.specs.Incidents.{committed, running}
use Rattle.cue_engine.specs.Runs.{is_cancelling_in, joined_list}
use Rattle.cue_device.specs.declared.asked.Command.{Command}
use Rattle.cue_device.specs.declared.asked.Command.TheVariants.{Standby, Go, Cancel}
use Rattle.cue_device.specs.declared.hearing.Device.{Device}
use Rattle.cue_device.specs.declared.hearing.Told.{Told}
use Rattle.cue_device.specs.declared.phase.Phase.{Phase}
use Rattle.cue_device.specs.declared.phase.Phase.TheVariants.{Preparing, Moving, Done, LettingGo}
use Rattle.cue_device.specs.declared.words.Answer.{Answer}
use Rattle.cue_device.specs.declared.words.Answer.TheVariants.{StandingBy, Complete, Cancelled, Abort}
use Rattle.cue_device.specs.Datagrams.{answer_text}
use Rattle.cue_device.specs.Hearing.{after_command, answered_for, device_at_rest, ends_giving_up, ends_moving}
use Rattle.cue_device.specs.Hearing.{ends_preparing, seq_of}
use Rattle.cue_device.specs.Histories.{hears, tells, answer_to, device_after}
use Rattle.cue_device.specs.Histories as device
use Rattle.cue_stage.specs.Stage.{Beginning, Happening, meets, befalls, Happens, MayBeDelivered, incidents, life_of}
use Rattle.cue_stage.specs.Stage.{store_after}
use Rattle.cue_stage.specs.Waiting.{EndsAWaiting, EndsWithin, IsPreparing, WaitsForNoMore, awaited, is_abort}
use Rattle.cue_stage.specs.Waiting.{is_answer_in, is_settled, outcome_with}

-- ---- what came since a moment

-- The batches that the store has kept since it had the state s: they make the state that it has now.
pub record KeptSince (from : Beginning) (past later : List Happening) (s : ShowState) (x y : List ℕ) : Type 0 where
  pub kept : List (List Event)
  pub prefix : AreKept s (incidents later) kept
  pub has : HasState (store_after from (later ++ past)) x y (after_events s (joined_list kept))

-- ---- the first law: the waiting never rises

-- Whatever happens after an engine ran with the state s, an attempt that was settled then waits for nobody for whom it
-- did not wait then, and so for no more devices.
pub record NeverRises (from : Beginning) (past later : List Happening) (s : ShowState) (q : ℕ) (x y : List ℕ) : Type 0
  where
    pub since : KeptSince from past later s x y
    pub waits : WaitsForNoMore q s (after_events s (joined_list since.kept))

abbrev pub WaitingNeverRises : Type 0
WaitingNeverRises = (from : Beginning) (past later : List Happening) (s : ShowState) (owed : List (ℕ × Send)) (q : ℕ)
    (x y : List ℕ) → Happens from (later ++ past) → store_after from past ≡ running s owed → IsTrue (is_settled s q)
    → MayRead (store_after from (later ++ past)) x y → NeverRises from past later s q x y

-- ---- the second law: a tick orders all who are awaited

-- one of the datagrams is an order that passes the test
abbrev pub is_sent : (Order → Bool) → List (ℕ × Send) → Bool
is_sent test sends = list_any (λ m. is_order_with test m.1) sends

-- What a tick sends for a settled attempt: an order to each device that is still to answer, and to no other one; a GO_2PC
-- to its port, if it was given, and a CANCEL, if it was given up. It changes nothing in the attempt.
pub record OrdersWhoIsAwaited (q : ℕ) (s : ShowState) (now : ℕ) : Type 0 where
  pub whom : (d : ℕ) → is_sent (is_order_to q d) (given_of s now tick).sends ≡ is_among d (awaited s q)
  pub go : (d port : ℕ) → IsTrue (is_decided_in s q) → IsTrue (is_among d (awaited s q)) → port_of s.show d ≡ Some port
      → Contains (given_of s now tick).sends (port, order (go_2pc q d))
  pub cancel : (d port : ℕ) → IsTrue (is_cancelling_in s q) → IsTrue (is_among d (awaited s q))
      → port_of s.show d ≡ Some port → Contains (given_of s now tick).sends (port, order (cancel q d))
  pub same : attempt_of (after_events s (given_of s now tick).batch).live q ≡ attempt_of s.live q

abbrev pub ATickOrdersAllWhoAreAwaited : Type 0
ATickOrdersAllWhoAreAwaited = (s : ShowState) (now q : ℕ) → IsTrue (is_state s) → IsTrue (is_settled s q)
    → OrdersWhoIsAwaited q s now

-- ---- the third law: each copy is answered, once the machine has done with it

-- the answer is one to the order
abbrev pub is_answer_to : Command → Answer → Bool
is_answer_to (Standby q task) (StandingBy p) = nat_eq p q
is_answer_to (Standby q task) (Abort p) = nat_eq p q
is_answer_to (Go q) (Complete p) = nat_eq p q
is_answer_to (Go q) (Abort p) = nat_eq p q
is_answer_to (Cancel q) (Cancelled p) = nat_eq p q
is_answer_to (Cancel q) (Abort p) = nat_eq p q
is_answer_to c x = false

-- In this phase a copy of the order has no answer yet: the machine prepares, moves, or gives up what it prepared. A
-- STANDBY that comes once it has moved is a late copy, and has none at all.
abbrev pub is_silent : Command → Phase → Bool
is_silent c Preparing = true
is_silent c Moving = true
is_silent c LettingGo = true
is_silent (Standby q task) Done = true
is_silent c p = false

-- the machine does what the order asks
abbrev pub does : Command → Phase → Bool
does (Standby q task) Preparing = true
does (Go q) Moving = true
does (Cancel q) LettingGo = true
does c p = false

-- the phase of the attempt that the order is of passes the test
abbrev pub is_in_phase : (Phase → Bool) → ℕ → Device → Bool
is_in_phase test q d = nat_eq d.last q && option_map_or (λ a. test a.phase) d.attempt false

-- the machine reports the end of what the order asks: that it has done it, or that it cannot go on
abbrev pub is_end_of_work : Command → Told → Bool
is_end_of_work (Standby q task) told = ends_preparing q told
is_end_of_work (Go q) told = ends_moving q told
is_end_of_work (Cancel q) told = ends_giving_up q told

-- What befalls a device has to bring its answer to the order: a copy of it comes, and the machine is not at work for it
-- then; or the machine, which does what it asks, reports the end of that.
abbrev pub BringsAnswer : Command → device.Happening → Device → Type 0
BringsAnswer c (hears o) d = (o ≡ c) × (is_in_phase (is_silent c) (seq_of c) (after_command c d) ≡ false)
BringsAnswer c (tells told) d = IsTrue (is_in_phase (does c) (seq_of c) d) × IsTrue (is_end_of_work c told)
BringsAnswer c what d = ⊥

-- then the device answers it
pub record IsAnswered (c : Command) (what : device.Happening) (d : Device) : Type 0 where
  pub answer : Answer
  pub given : answer_to what d ≡ Some answer
  pub fits : IsTrue (is_answer_to c answer)

abbrev pub EachCopyIsAnswered : Type 0
EachCopyIsAnswered = (c : Command) (what : device.Happening) (d : Device) → BringsAnswer c what d → IsAnswered c what d

-- ---- the fourth law: an answer ends a waiting

-- what an answer of a device says
abbrev pub kind_of : Answer → AnswerKind
kind_of (StandingBy q) = answer_kind.StandingBy
kind_of (Complete q) = answer_kind.Complete
kind_of (Cancelled q) = answer_kind.Cancelled
kind_of (Abort q) = answer_kind.Abort

-- A datagram that is an answer of a device to the order of the present stage, from the port of that device, ends a
-- waiting: the device is awaited no more, and the attempt ends with the last of them.
abbrev pub AnAnswerEndsAWaiting : Type 0
AnAnswerEndsAWaiting = (s : ShowState) (a : Attempt) (now from d : ℕ) (x : Answer) → IsTrue (is_state s)
    → attempt_of s.live (answered_for x) ≡ Some a → IsTrue (is_answer_in a.stage (kind_of x))
    → IsTrue (is_among d (awaited s (answered_for x))) → port_of s.show d ≡ Some from
    → EndsAWaiting (answered_for x) d (outcome_with (is_abort (kind_of x)) a) s
    (after_events s (given_of s now (datagram from (answer_text d x))).batch)

-- ---- the fifth law: a cue that can go does go

-- the tick is taken
abbrev pub ticked : ℕ → Happening
ticked now = meets (committed ((now, tick) ∷ []))

-- the device d by now
abbrev pub device_now : Beginning → List Happening → ℕ → Device
device_now from past d = device_after (device_at_rest d (from.over d)) (life_of d past)

-- The answer of the device d is taken: a commit that is acknowledged has the datagram with it, from this port, among its
-- inputs.
pub record IsTaken (later : List Happening) (d port : ℕ) (x : Answer) : Type 0 where
  pub before : List Happening
  pub after : List Happening
  pub first : List (ℕ × Input)
  pub others : List (ℕ × Input)
  pub now : ℕ
  pub split : later ≡ after ++ meets (committed (first ++ (now, datagram port (answer_text d x)) ∷ others)) ∷ before

-- The device d is heard out: something brings its answer to the order, and that is taken.
pub record IsHeardOut (from : Beginning) (past later : List Happening) (d port : ℕ) (c : Command) : Type 0 where
  pub before : List Happening
  pub what : device.Happening
  pub after : List Happening
  pub split : later ≡ after ++ befalls d what ∷ before
  pub brings : BringsAnswer c what (device_now from (before ++ past) d)
  pub taken : (x : Answer) → answer_to what (device_now from (before ++ past) d) ≡ Some x → IsTaken after d port x

-- All goes well for q after a tick: each device to which it sends an order of q is heard out, from the port to which the
-- order went.
abbrev pub GoesWell : Beginning → List Happening → ShowState → ℕ → List Happening → ℕ → Type 0
GoesWell from past s now round q = (d : ℕ) (c : Command) → seq_of c ≡ q
    → (sent : MayBeDelivered (datagrams (given_of s now tick).sends) d c)
    → IsHeardOut from (ticked now ∷ past) round d sent.datagram.0 c

-- q is not live any more. If it was when the engine had the state s, it has ended among the batches kept since; complete,
-- if it was given and no device has failed.
pub record HasGone (from : Beginning) (past later : List Happening) (s : ShowState) (q : ℕ) (x y : List ℕ) : Type 0
  where
    pub since : KeptSince from past later s x y
    pub gone : attempt_of (after_events s (joined_list since.kept)).live q ≡ None
    pub how : (a : Attempt) → attempt_of s.live q ≡ Some a → EndsWithin q a s (joined_list since.kept)

-- A cue that can go does go: if after a tick each device that q waits for is heard out, q has ended. In that time
-- anything else may happen, too.
abbrev pub ACueThatCanGoDoesGo : Type 0
ACueThatCanGoDoesGo = (from : Beginning) (past round : List Happening) (s : ShowState) (owed : List (ℕ × Send))
    (now q : ℕ) (x y : List ℕ) → Happens from (round ++ ticked now ∷ past) → store_after from past ≡ running s owed
    → IsTrue (is_settled s q) → GoesWell from past s now round q
    → MayRead (store_after from (round ++ ticked now ∷ past)) x y
    → HasGone from past (round ++ ticked now ∷ []) s q x y

-- ---- the sixth law: a cue that is prepared can go

-- If q is still prepared, a GO for its cue is made, whenever and wherever it comes from.
pub record CanGo (from : Beginning) (past later : List Happening) (s : ShowState) (q : ℕ) (x y : List ℕ) : Type 0
  where
    pub since : KeptSince from past later s x y
    pub made : (p : IsPreparing q (after_events s (joined_list since.kept))) (now port : ℕ)
        → judgement_of (after_events s (joined_list since.kept)) now port (command.Go p.attempt.cue)
        ≡ made_by (event.Go q ∷ [])

-- A cue that each machine prepares can go: if after a tick each device that q waits for is heard out, and q was neither
-- given nor given up in that time, by a device, its deadline or an operator, then a GO is made.
abbrev pub ACueThatIsPreparedCanGo : Type 0
ACueThatIsPreparedCanGo = (from : Beginning) (past round : List Happening) (s : ShowState) (owed : List (ℕ × Send))
    (now q : ℕ) (x y : List ℕ) → Happens from (round ++ ticked now ∷ past) → store_after from past ≡ running s owed
    → q ≤ s.last_seq → GoesWell from past s now round q
    → MayRead (store_after from (round ++ ticked now ∷ past)) x y
    → CanGo from past (round ++ ticked now ∷ []) s q x y
