-- The attempts whose devices get new orders by events, and the orders to them.
use Rattle.std.specs.Prelude.{◌≡◌, ◌≢◌, ℕ, Bool, List, filter, Option, None, Some, IsTrue}
use Rattle.std.specs.List.{AllPairs, filter_map, list_all}
use Rattle.cue_show.specs.Devices.{is_among}
use Rattle.cue_core.specs.declared.event.Event.{Event}
use Rattle.cue_core.specs.declared.event.Event.TheVariants.{Start, Go, Cancel}
use Rattle.cue_core.specs.State.{ShowState, is_state}
use Rattle.cue_core.specs.declared.command.Command.{Command}
use Rattle.cue_core.specs.Steps.{are_acceptable, after_events}
use Rattle.cue_core.specs.Judge.{is_fit}
use Rattle.cue_core.specs.InTurn.{steps, events_of}
use Rattle.cue_core.specs.Pending.{Order, standby, go_2pc, cancel, pending}
use Rattle.cue_outbox.specs.Sending.{Send, datagrams, orders}
use Rattle.cue_outbox.specs.New.{newly_pending}

-- the number of the attempt that an order is of
abbrev pub number_of : Order → ℕ
number_of (standby q d cue bytes) = q
number_of (go_2pc q d) = q
number_of (cancel q d) = q

-- the attempt whose devices get new orders by the event: it starts, is decided, or is cancelled
abbrev pub number_asked : Event → Option ℕ
number_asked (Start q c t) = Some q
number_asked (Go q) = Some q
number_asked (Cancel q r) = Some q
number_asked _ = None

-- the devices of q get new orders by some of the events
abbrev pub is_asked : ℕ → List Event → Bool
is_asked q events = is_among q (filter_map number_asked events)

-- the pending orders of the attempts with these numbers, in the order of all
abbrev pub pending_of : List ℕ → ShowState → List (ℕ × Send)
pending_of numbers s = orders (filter (λ o. is_among (number_of o.1) numbers) (pending s))

-- After events that are acceptable in turn, the newly pending orders are those of the attempts whose devices get
-- new orders by the events.
abbrev pub NewlyPendingAreAsked : Type 0
NewlyPendingAreAsked =
    (s : ShowState) (events : List Event) (numbers : List ℕ) → IsTrue (is_state s) → IsTrue (are_acceptable s events)
    → ((q : ℕ) → is_among q numbers ≡ is_asked q events)
    → newly_pending s (after_events s events) ≡ pending_of numbers (after_events s events)

-- And so after the commands of a datagram, judged in turn: the newly pending are those of the attempts whose
-- devices get new orders by their events.
abbrev pub StepsAskAgain : Type 0
StepsAskAgain =
    (s : ShowState) (now from : ℕ) (commands : List Command) (numbers : List ℕ) → IsTrue (is_state s)
    → IsTrue (list_all is_fit commands)
    → ((q : ℕ) → is_among q numbers ≡ is_asked q (events_of (steps s now from commands)))
    → newly_pending s (after_events s (events_of (steps s now from commands)))
    ≡ pending_of numbers (after_events s (events_of (steps s now from commands)))

-- no two pending orders of some attempts are the same datagram
abbrev pub AskedOrdersDiffer : Type 0
AskedOrdersDiffer =
    (s : ShowState) (numbers : List ℕ) → IsTrue (is_state s)
    → AllPairs (λ x y. x ≢ y) (datagrams (pending_of numbers s))
