-- What a store comes to, whatever happens to it: the first promise of the product.
--
-- It is proved of all lists of incidents that the contracts of the calls permit.
use Rattle.std.specs.Prelude.{◌≡◌, ◌⊎◌, ℕ, Bool, true, false, List, [], ◌∷◌, ◌++◌, take, IsTrue}
use Rattle.std.specs.List.{AllByRecursion, list_all}
use Rattle.cue_disk.specs.Disk.{Contents}
use Rattle.cue_snap.specs.Pair.{NeitherHas, IsSpoiled}
use Rattle.cue_core.specs.declared.event.Event.{Event}
use Rattle.cue_core.specs.State.{ShowState, empty_state, is_state}
use Rattle.cue_core.specs.Steps.{after_events}
use Rattle.cue_core.specs.Batches.{closed_state}
use Rattle.cue_keeper.specs.Groups.{with_events}
use Rattle.cue_keeper.specs.Stands.{Stands, StandsAs, folded_all}
use Rattle.cue_keeper.specs.Refusals.{HasOtherVersion, StandsForNone}
use Rattle.cue_outbox.specs.Sending.{Send, all_pending, datagrams}
use Rattle.cue_engine.specs.Given.{given_recovery}
use Rattle.cue_engine.specs.Groups.{batches_given}
use Rattle.cue_engine.specs.Recovery.{ClosedFrom}
use Rattle.cue_engine.specs.Runs.{joined_list, rests}
use Rattle.cue_engine.specs.InBytes.{BytesRest, BytesPending}
use Rattle.cue_engine.specs.Incidents.{Incident, committed, handed_out, handed_some, stopped, stopped_in_commit}
use Rattle.cue_engine.specs.Incidents.{recovered, stopped_in_recovery, Store, running, at_rest, unformed, LeavesOnly}
use Rattle.cue_engine.specs.Incidents.{AreLeft}
use Rattle.cue_engine.specs.Incidents.{left_by, Happens, left_by_all}

-- ---- what was handed to the network

abbrev pub owed_by : Store → List (ℕ × Send)
owed_by (running s owed) = owed
owed_by (at_rest one other) = []
owed_by (unformed one other) = []

abbrev pub handed_in : Store → Incident → List (ℕ × Send)
handed_in store handed_out = owed_by store
handed_in store (handed_some n) = take n (owed_by store)
handed_in store (stopped n one other) = take n (owed_by store)
handed_in store (stopped_in_commit inputs n one other) = take n (owed_by store)
handed_in store _ = []

-- all that was handed to the network, in order
abbrev pub all_handed : Store → List Incident → List (ℕ × Send)
all_handed store [] = []
all_handed store (i ∷ is) = handed_in store i ++ all_handed (left_by store i) is

-- ---- which batches are kept

-- The batches that an incident brings to the state before it, each by itself. One without an event is none.
abbrev pub batches_of : ShowState → Incident → List (List Event)
batches_of s (committed inputs) = with_events (batches_given s inputs)
batches_of s (stopped_in_commit inputs n one other) = with_events (batches_given s inputs)
batches_of s (recovered t) = with_events ((given_recovery s).batch ∷ [])
batches_of s (stopped_in_recovery one other) = with_events ((given_recovery s).batch ∷ [])
batches_of s _ = []

-- The call that accepts the batches was cut off, so they are not acknowledged.
abbrev pub is_cut_off : Incident → Bool
is_cut_off (stopped_in_commit inputs n one other) = true
is_cut_off (stopped_in_recovery one other) = true
is_cut_off _ = false

-- These are the kept ones of the batches that came to the state, in their order, each by itself and whole. Every
-- acknowledged one is kept. Those of a call that was cut off all are, or none is: after it no other is accepted until a
-- recovery. So between two recoveries the kept ones are a prefix.
abbrev pub AreKept : ShowState → List Incident → List (List Event) → Type 0
AreKept s [] kept = kept ≡ []
AreKept s (i ∷ is) kept =
    ((others : List (List Event)) × ((kept ≡ batches_of s i ++ others)
    × AreKept (folded_all s (batches_of s i)) is others))
    ⊎ ((is_cut_off i ≡ true) × AreKept s is kept)

-- ---- where a life begins, and where it is looked at

-- A store's life begins with this state: an engine was formed or recovered with it; or the disks were closed with it;
-- or neither disk has an area yet, and the state is the first one.
abbrev pub BeginsWith : Store → ShowState → Type 0
BeginsWith (running t owed) s = (t ≡ s) × (owed ≡ all_pending s)
BeginsWith (at_rest one other) s = StandsAs one other s
BeginsWith (unformed one other) s = LeavesOnly one other NeitherHas × (s ≡ empty_state)

-- The disks may read as x and y: a crash may leave these. While an engine runs nobody reads them.
abbrev pub MayRead : Store → List ℕ → List ℕ → Type 0
MayRead (running s owed) x y = Unit {0}
MayRead (at_rest one other) x y = AreLeft one other x y
MayRead (unformed one other) x y = AreLeft one other x y

-- The store has this state: the engine over it has it, or the disks, read as x and y, stand for it. Before `form` was
-- answered Ok there may be no area yet in place of the first state.
abbrev pub HasState : Store → List ℕ → List ℕ → ShowState → Type 0
HasState (running t owed) x y s = t ≡ s
HasState (at_rest one other) x y s = Stands x y s
HasState (unformed one other) x y s = (s ≡ empty_state) × (NeitherHas x y ⊎ Stands x y s)

-- ---- the promise

-- What a store came to from a state on: batches are kept, in order and each whole, every acknowledged one among them;
-- they make the state that it has; and each datagram that was handed to the network rests on them, down to its bytes: a
-- GO_2PC on the Go of its attempt, a CANCEL on its Cancel, a STANDBY or CANCEL on its Start. Each order was pending in
-- a state that the first of their events make.
pub record CameTo (s : ShowState) (store : Store) (is : List Incident) (x y : List ℕ) : Type 0 where
  pub kept : List (List Event)
  pub prefix : AreKept s is kept
  pub has : HasState (left_by_all store is) x y (after_events s (joined_list kept))
  pub decided : IsTrue (list_all (rests s (joined_list kept)) (all_handed store is))
  pub in_bytes : AllByRecursion (λ d. BytesRest s (joined_list kept) d.1) (datagrams (all_handed store is))
  pub was_pending : AllByRecursion (λ d. BytesPending s (joined_list kept) d.1) (datagrams (all_handed store is))

-- Whatever happens to a store, it comes to that.
abbrev pub WhateverHappens : Type 0
WhateverHappens =
    (s : ShowState) (store : Store) (is : List Incident) (x y : List ℕ)
    → IsTrue (is_state s) → BeginsWith store s → Happens store is → MayRead (left_by_all store is) x y
    → CameTo s store is x y

-- Recovery has no reason to answer Unformed, Damaged, Version or Malformed.
pub record IsReadable (x y : List ℕ) : Type 0 where
  pub formed : NeitherHas x y → ⊥
  pub whole : IsSpoiled x y → ⊥
  pub known : HasOtherVersion x y → ⊥
  pub well_formed : StandsForNone x y → ⊥

-- What recovery answers with, if it answers Ok: the state was closed from one that the disks stood for (`stood`),
-- and the queue is what is pending in it (`queue`).
pub record IsAnswered (x y : List ℕ) (state : ShowState) (queue : List (ℕ × List ℕ)) : Type 0 where
  pub stood : ClosedFrom x y state
  pub owed : queue ≡ datagrams (all_pending state)

-- What recovery gives from disks that read as x and y: the state of the kept batches, with its undecided attempts
-- cancelled, and the datagrams that are pending in it; and no GO_2PC was handed to the network for an attempt whose
-- decision the kept batches lack.
pub record IsPromised (s : ShowState) (store : Store) (is : List Incident) (x y : List ℕ) : Type 0 where
  pub kept : List (List Event)
  pub prefix : AreKept s is kept
  pub readable : IsReadable x y
  pub gives : (t : ShowState) (queue : List (ℕ × List ℕ)) → IsAnswered x y t queue
      → t ≡ closed_state (after_events s (joined_list kept))
  pub owes : (t : ShowState) (queue : List (ℕ × List ℕ)) → IsAnswered x y t queue
      → queue ≡ datagrams (all_pending (closed_state (after_events s (joined_list kept))))
  pub decided : IsTrue (list_all (rests s (joined_list kept)) (all_handed store is))
  pub in_bytes : AllByRecursion (λ d. BytesRest s (joined_list kept) d.1) (datagrams (all_handed store is))

-- The promise: for every list of inputs, and stops before, within or after any write, also within recovery, one after
-- the other; whatever the disks then read as.
abbrev pub RecoveryGivesAPrefix : Type 0
RecoveryGivesAPrefix =
    (s : ShowState) (store : Store) (is : List Incident) (one other : Contents) (x y : List ℕ)
    → IsTrue (is_state s) → BeginsWith store s → Happens store is → left_by_all store is ≡ at_rest one other
    → AreLeft one other x y → IsPromised s store is x y
