-- What an attempt may count on, over every life of a store, with stops anywhere.
--
-- `Attempts` says the same of runs, which lose no batch. Here every list of incidents is meant, with whatever batches
-- it may have kept.
use Rattle.std.specs.Prelude.{◌≡◌, ◌⊎◌, ℕ, Bool, true, not, ◌&&◌, List, ◌∷◌, ◌++◌, [], IsTrue}
use Rattle.std.specs.List.{list_any}
use Rattle.cue_core.specs.declared.event.Event.{Event}
use Rattle.cue_core.specs.declared.event.Event.TheVariants.{Start, Go}
use Rattle.cue_core.specs.Events.{is_end_of, is_start_of}
use Rattle.cue_core.specs.State.{ShowState, empty_state}
use Rattle.cue_core.specs.Happenings.{onto}
use Rattle.cue_core.specs.History.{is_history}
use Rattle.cue_core.specs.Pending.{Order}
use Rattle.cue_core.specs.Safety.{is_go_to, is_cancel_to, is_order_to}
use Rattle.cue_core.specs.Steps.{after_events}
use Rattle.cue_outbox.specs.Sending.{Send}
use Rattle.cue_engine.specs.Attempts.{IsDecidedInOrder, is_order_with}
use Rattle.cue_engine.specs.Groups.{all_took}
use Rattle.cue_engine.specs.Headline.{AreKept, BeginsWith, MayRead, all_handed, is_cut_off}
use Rattle.cue_engine.specs.Incidents.{Incident, Store, Happens, left_by_all, running}
use Rattle.cue_engine.specs.Incidents.{committed, stopped_in_commit, recovered, stopped_in_recovery}
use Rattle.cue_engine.specs.Runs.{Happening, run, joined_list}
use Rattle.cue_engine.specs.Runs as runs

-- what comes to the state with an incident, if its batches are kept: its inputs, or a recovery
abbrev pub happenings_of : Incident → List Happening
happenings_of (committed inputs) = all_took inputs
happenings_of (stopped_in_commit inputs n one other) = all_took inputs
happenings_of (recovered t) = runs.recovered ∷ []
happenings_of (stopped_in_recovery one other) = runs.recovered ∷ []
happenings_of _ = []

-- These came with the incidents, in order: all that came with each, or, of one that was cut off, nothing.
abbrev pub AreOf : List Incident → List Happening → Type 0
AreOf [] hs = hs ≡ []
AreOf (i ∷ is) hs =
    ((others : List Happening) × ((hs ≡ happenings_of i ++ others) × AreOf is others))
    ⊎ ((is_cut_off i ≡ true) × AreOf is hs)

-- These are all batches of a run of what came with the incidents.
pub record IsOfRun (s : ShowState) (is : List Incident) (kept : List (List Event)) : Type 0 where
  pub happenings : List Happening
  pub came : AreOf is happenings
  pub same : (run s happenings).batches ≡ kept

-- What is kept are the batches of a run of what came, in which what was cut off and lost never came: each law on runs
-- holds of it.
abbrev pub KeptIsARun : Type 0
KeptIsARun = (s : ShowState) (is : List Incident) (kept : List (List Event)) → AreKept s is kept → IsOfRun s is kept

-- It is a history: each law on histories holds of it.
abbrev pub KeptIsAHistory : Type 0
KeptIsAHistory = (is : List Incident) (kept : List (List Event)) → AreKept empty_state is kept
    → IsTrue (is_history (onto (joined_list kept) []))

-- Go of an attempt is kept only after Ready of each required device, after Ready or Excuse of each optional one, and
-- after no Cancel; and no Cancel is kept after it.
abbrev pub KeptInOrder : Type 0
KeptInOrder = (is : List Incident) (kept : List (List Event)) (q : ℕ) (before later : List Event)
    → AreKept empty_state is kept → joined_list kept ≡ before ++ Go q ∷ later → IsDecidedInOrder q before later

-- A number names one attempt for good: no other Start that is kept has it.
abbrev pub KeptNumberNamesOne : Type 0
KeptNumberNamesOne = (is : List Incident) (kept : List (List Event)) (q : ℕ) (cue : List ℕ) (deadline : ℕ)
    (before later : List Event) → AreKept empty_state is kept
    → joined_list kept ≡ before ++ Start q cue deadline ∷ later
    → IsTrue (not (list_any (is_start_of q) before) && not (list_any (is_start_of q) later))

-- some order that was handed to the network passes the test
abbrev pub was_handed : (Order → Bool) → Store → List Incident → Bool
was_handed test store is = list_any (λ m. is_order_with test m.1) (all_handed store is)

-- If a GO_2PC of an attempt was handed to the network, for whichever device, no CANCEL of it is, for any.
abbrev pub NeverHandedBoth : Type 0
NeverHandedBoth = (store : Store) (is : List Incident) (x y : List ℕ) (q d e : ℕ) → BeginsWith store empty_state
    → Happens store is → MayRead (left_by_all store is) x y
    → IsTrue (not (was_handed (is_go_to q d) store is && was_handed (is_cancel_to q e) store is))

-- an order to the device d in the attempt q is among these
abbrev pub tells : ℕ → ℕ → List (ℕ × Send) → Bool
tells q d ms = list_any (λ m. is_order_with (is_order_to q d) m.1) ms

-- An engine runs with the state that the kept batches make, and by these a device is done with in an attempt: it has
-- answered for the last time, or was excused. If it is owed nothing there by then, nothing is handed to the network for
-- it there any more, whatever happens, with stops anywhere.
abbrev pub NothingMoreIsHanded : Type 0
NothingMoreIsHanded = (is later : List Incident) (kept : List (List Event)) (owed : List (ℕ × Send)) (q d : ℕ)
    → AreKept empty_state is kept → IsTrue (list_any (is_end_of q d) (joined_list kept))
    → IsTrue (not (tells q d owed))
    → Happens (running (after_events empty_state (joined_list kept)) owed) later
    → IsTrue (not (tells q d (all_handed (running (after_events empty_state (joined_list kept)) owed) later)))
