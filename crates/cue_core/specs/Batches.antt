-- Events that are acceptable in turn: the histories that they make, what they leave as it was, and what a recovery
-- makes of a state.
use Rattle.std.specs.Prelude.{◌≡◌, ℕ, Bool, true, ◌||◌, List, [], IsTrue}
use Rattle.std.specs.List.{list_any}
use Rattle.cue_exchange.specs.Answers.{is_decided}
use Rattle.cue_exchange.specs.Steps.{holds}
use Rattle.cue_core.specs.declared.event.Event.{Event}
use Rattle.cue_core.specs.State.{ShowState, empty_state, is_state}
use Rattle.cue_core.specs.Steps.{are_acceptable, after_events}
use Rattle.cue_core.specs.Events.{is_start_of, is_go_of}
use Rattle.cue_core.specs.History.{state_of, is_history}
use Rattle.cue_core.specs.Happenings.{recovered, events_at, onto}

-- the attempt q is live
abbrev pub is_live_in : ShowState → ℕ → Bool
is_live_in s q = holds q (λ a. true) s.live

-- the attempt q is live and Decided
abbrev pub is_decided_in : ShowState → ℕ → Bool
is_decided_in s q = holds q (λ a. is_decided a.stage) s.live

-- the state with its undecided attempts cancelled
unfoldable pub closed_state : ShowState → ShowState
closed_state s = after_events s (events_at s recovered)

-- Closing twice is closing once.
abbrev pub ClosedStays : Type 0
ClosedStays = (s : ShowState) → closed_state (closed_state s) ≡ closed_state s

-- The state that a history leads to is that of its events in turn.
abbrev pub HistoriesFold : Type 0
HistoriesFold = (past es : List Event) → state_of (onto es past) ≡ after_events (state_of past) es

-- Events that are acceptable in turn from the empty state are a history.
abbrev pub AcceptableAreHistories : Type 0
AcceptableAreHistories = (es : List Event) → IsTrue (are_acceptable empty_state es) → IsTrue (is_history (onto es []))

-- Events that are acceptable in turn keep the rules of a state.
abbrev pub EventsKeepRules : Type 0
EventsKeepRules =
    (s : ShowState) (es : List Event) → IsTrue (is_state s) → IsTrue (are_acceptable s es)
    → IsTrue (is_state (after_events s es))

-- An attempt that is live after events was live before, or its Start is one of them.
abbrev pub LiveByStart : Type 0
LiveByStart =
    (s : ShowState) (es : List Event) (q : ℕ) → IsTrue (is_live_in (after_events s es) q)
    → IsTrue (is_live_in s q || list_any (is_start_of q) es)

-- An attempt that is Decided after events was Decided before, or its Go is one of them.
abbrev pub DecidedByGo : Type 0
DecidedByGo =
    (s : ShowState) (es : List Event) (q : ℕ) → IsTrue (is_decided_in (after_events s es) q)
    → IsTrue (is_decided_in s q || list_any (is_go_of q) es)
