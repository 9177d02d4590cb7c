-- What a theatre relies on, for every history.
use Rattle.std.specs.Prelude.{◌≡◌, ℕ, Bool, false, not, ◌&&◌, ◌||◌, List, [], ◌∷◌, Some, nat_eq, IsTrue}
use Rattle.std.specs.List.{list_any}
use Rattle.cue_exchange.specs.declared.attempt.Attempt.{Attempt}
use Rattle.cue_exchange.specs.Answers.{devices_of, is_decided}
use Rattle.cue_exchange.specs.Live.{attempt_of, disjoint, pairwise}
use Rattle.cue_core.specs.declared.event.Event.{Event}
use Rattle.cue_core.specs.State.{ShowState}
use Rattle.cue_core.specs.History.{state_of, is_history, is_decided_by}
use Rattle.cue_core.specs.Events.{is_end_of}
use Rattle.cue_core.specs.Pending.{Order, standby, go_2pc, cancel, pending}

-- the device d is ordered to carry the cue out in q
abbrev pub is_go_to : ℕ → ℕ → Order → Bool
is_go_to q d (go_2pc p e) = nat_eq p q && nat_eq e d
is_go_to q d _ = false

-- the device d is ordered to give the preparation up in q
abbrev pub is_cancel_to : ℕ → ℕ → Order → Bool
is_cancel_to q d (cancel p e) = nat_eq p q && nat_eq e d
is_cancel_to q d _ = false

-- the device d is ordered anything in q
abbrev pub is_order_to : ℕ → ℕ → Order → Bool
is_order_to q d (standby p e c b) = nat_eq p q && nat_eq e d
is_order_to q d (go_2pc p e) = nat_eq p q && nat_eq e d
is_order_to q d (cancel p e) = nat_eq p q && nat_eq e d

-- the state asks anything of the device in q
abbrev pub asks : ℕ → ℕ → ShowState → Bool
asks q d s = list_any (λ (o : ℕ × Order). is_order_to q d o.1) (pending s)

-- the state asks the device to go in q
abbrev pub asks_to_go : ℕ → ℕ → ShowState → Bool
asks_to_go q d s = list_any (λ (o : ℕ × Order). is_go_to q d o.1) (pending s)

-- the state asks the device to cancel in q
abbrev pub asks_to_cancel : ℕ → ℕ → ShowState → Bool
asks_to_cancel q d s = list_any (λ (o : ℕ × Order). is_cancel_to q d o.1) (pending s)

-- some state of the history passes the test
abbrev pub ever : (ShowState → Bool) → List Event → Bool
ever test [] = test (state_of [])
ever test (e ∷ past) = test (state_of (e ∷ past)) || ever test past

-- No device is ever asked to both go and cancel in one attempt.
abbrev pub NeverAskedBoth : Type 0
NeverAskedBoth =
    (h : List Event) (q d : ℕ) → IsTrue (is_history h)
    → IsTrue (not (ever (asks_to_go q d) h && ever (asks_to_cancel q d) h))

-- A device that is done with in an attempt, since it has answered for the last time or was excused, is asked nothing
-- more in it.
abbrev pub NothingMoreIsAsked : Type 0
NothingMoreIsAsked =
    (h : List Event) (q d : ℕ) → IsTrue (is_history h) → IsTrue (list_any (is_end_of q d) h)
    → IsTrue (not (asks q d (state_of h)))

-- At most one live attempt holds a device.
abbrev pub OneHolder : Type 0
OneHolder =
    (h : List Event) → IsTrue (is_history h)
    → IsTrue (pairwise (λ a b. disjoint (devices_of a.answers) (devices_of b.answers)) (state_of h).live)

-- An attempt that was decided is Decided for as long as it is live.
abbrev pub DecidedStays : Type 0
DecidedStays =
    (h : List Event) (q : ℕ) (a : Attempt) → IsTrue (is_history h) → IsTrue (is_decided_by h q)
    → attempt_of (state_of h).live q ≡ Some a → IsTrue (is_decided a.stage)
