-- What may happen to a store, and what it leaves.
--
-- A store's life is a list of incidents: it is formed, inputs are committed, datagrams are handed over, and there are
-- stops, recoveries and refusals. `Permits` says of each incident what the contract of its call says of what the two
-- disks are left with, and nothing else. The laws of `Permitted` say that it does so.
use Rattle.std.specs.Prelude.{ℕ, List, [], ◌∷◌, ◌++◌, drop}
use Rattle.cue_disk.specs.Disk.{Contents, IsImage}
use Rattle.cue_core.specs.State.{ShowState, empty_state}
use Rattle.cue_keeper.specs.Stands.{StandsEither, StandsAs, first_area, folded_all}
use Rattle.cue_outbox.specs.Sending.{Send, all_pending}
use Rattle.cue_snap.specs.Pair.{IsUnformedOr}
use Rattle.cue_engine.specs.Given.{Input}
use Rattle.cue_engine.specs.Groups.{batches_given, sends_given}
use Rattle.cue_engine.specs.Recovery.{ClosedFrom, IsLeftOrStands}

-- What may happen to a store. After a stop, with power lost or not, or a refusal the disks hold `one` and `other`.
pub data Incident : Type 0 where
  -- `form` answered Ok.
  formed : Incident
  -- A stop came within `form`, or a disk failed there.
  stopped_in_form : (one other : Contents) → Incident
  -- `take` of an input or `commit` of several answered Ok: the batch of each of these inputs is acknowledged.
  committed : (inputs : List (ℕ × Input)) → Incident
  -- `hand_out`: all that was owed was handed to the network.
  handed_out : Incident
  -- `hand_out_first`: the first n of what was owed were handed to the network, and the others are still owed.
  handed_some : (n : ℕ) → Incident
  -- A stop came while no call wrote to the disks, or the engine was closed. Of what was owed the first n datagrams had
  -- been handed to the network by then.
  stopped : (n : ℕ) (one other : Contents) → Incident
  -- A stop came within `take` or `commit` of these inputs, or a disk failed there: the batches of all of them are kept,
  -- or none. Of what was owed before it n datagrams may still be handed over.
  stopped_in_commit : (inputs : List (ℕ × Input)) (n : ℕ) (one other : Contents) → Incident
  -- `recover` answered Ok, with this state.
  recovered : (state : ShowState) → Incident
  -- A stop came within `recover`, or a disk failed there.
  stopped_in_recovery : (one other : Contents) → Incident
  -- `recover` was refused for memory, for a generation or for room, or `form` for memory: it has written nothing, and
  -- may be called again. Power that is lost while no engine runs is the same to the disks.
  refused : (one other : Contents) → Incident

-- A store. An engine runs with this state and owes these datagrams; or none runs, and the disks hold `one` and `other`;
-- or it is not formed yet: no `form` and no `recover` has answered Ok.
pub data Store : Type 0 where
  running : (state : ShowState) (owed : List (ℕ × Send)) → Store
  at_rest : (one other : Contents) → Store
  unformed : (one other : Contents) → Store

-- an engine that was formed or recovered with this state: it owes what is pending
abbrev pub begun : ShowState → Store
begun s = running s (all_pending s)

-- ---- what the contracts say

-- whatever a crash leaves of the two disks has P
abbrev pub LeavesOnly : Contents → Contents → (List ℕ → List ℕ → Type 0) → Type 0
LeavesOnly one other P = (x y : List ℕ) → IsImage one x → IsImage other y → P x y

-- a crash may leave these two of the disks
abbrev pub AreLeft : Contents → Contents → List ℕ → List ℕ → Type 0
AreLeft one other x y = IsImage one x × IsImage other y

-- Recovery gives the closed state of one for which some two stood that a crash may leave.
pub record RecoversAs (one other : Contents) (s : ShowState) : Type 0 where
  pub first : List ℕ
  pub second : List ℕ
  pub left : AreLeft one other first second
  pub closed : ClosedFrom first second s

-- While an engine runs and no call writes, whatever a crash leaves stands for the state (`accepts` of `take` and
-- `commit`, `stands` of `recover`, `state` and `close`, `formed` of `form`). A stop within `take` or `commit` leaves
-- the state from before or the one after all of the batches (`any_moment`).
abbrev pub PermitsRunning : ShowState → Incident → Type 0
PermitsRunning s (committed inputs) = Unit {0}
PermitsRunning s handed_out = Unit {0}
PermitsRunning s (handed_some n) = Unit {0}
PermitsRunning s (stopped n one other) = StandsAs one other s
PermitsRunning s (stopped_in_commit inputs n one other) =
    LeavesOnly one other (StandsEither s (folded_all s (batches_given s inputs)))
PermitsRunning s _ = ⊥

-- Recovery gives the closed state of one that the disks stood for (`stood`). A stop within it leaves what a crash might
-- have left before it, or what stands for such a state or for that state closed (`any_moment`). A refusal leaves
-- what a crash might have left before it (`unwritten`).
abbrev pub PermitsAtRest : Contents → Contents → Incident → Type 0
PermitsAtRest then_one then_other (recovered s) = RecoversAs then_one then_other s
PermitsAtRest then_one then_other (stopped_in_recovery one other) =
    LeavesOnly one other (IsLeftOrStands then_one then_other)
PermitsAtRest then_one then_other (refused one other) = LeavesOnly one other (AreLeft then_one then_other)
PermitsAtRest then_one then_other _ = ⊥

-- A stop within `form` leaves what a crash might have left before it, or no area, or what stands for the first state
-- (`any_moment`). All else is as at rest.
abbrev pub PermitsUnformed : Contents → Contents → Incident → Type 0
PermitsUnformed then_one then_other formed = Unit {0}
PermitsUnformed then_one then_other (stopped_in_form one other) =
    LeavesOnly one other (IsUnformedOr first_area then_one then_other)
PermitsUnformed then_one then_other (recovered s) = RecoversAs then_one then_other s
PermitsUnformed then_one then_other (stopped_in_recovery one other) =
    LeavesOnly one other (IsLeftOrStands then_one then_other)
PermitsUnformed then_one then_other (refused one other) = LeavesOnly one other (AreLeft then_one then_other)
PermitsUnformed then_one then_other _ = ⊥

-- what the contracts permit a store to meet
abbrev pub Permits : Store → Incident → Type 0
Permits (running s owed) i = PermitsRunning s i
Permits (at_rest one other) i = PermitsAtRest one other i
Permits (unformed one other) i = PermitsUnformed one other i

-- ---- what an incident leaves

-- an engine that committed inputs has the state after their batches, and owes what is sent for them, too
abbrev pub having_committed : Store → List (ℕ × Input) → Store
having_committed (running s owed) inputs =
    running (folded_all s (batches_given s inputs)) (owed ++ sends_given s inputs)
having_committed (at_rest one other) inputs = at_rest one other
having_committed (unformed one other) inputs = unformed one other

abbrev pub having_handed_out : Store → Store
having_handed_out (running s owed) = running s []
having_handed_out (at_rest one other) = at_rest one other
having_handed_out (unformed one other) = unformed one other

abbrev pub having_handed_some : Store → ℕ → Store
having_handed_some (running s owed) n = running s (drop n owed)
having_handed_some (at_rest one other) n = at_rest one other
having_handed_some (unformed one other) n = unformed one other

-- A call gave no engine, and now the disks hold these: a store that was not formed still is not.
abbrev pub still_at_rest : Store → Contents → Contents → Store
still_at_rest (running s owed) one other = at_rest one other
still_at_rest (at_rest then_one then_other) one other = at_rest one other
still_at_rest (unformed then_one then_other) one other = unformed one other

-- the store that the incident leaves
abbrev pub left_by : Store → Incident → Store
left_by store formed = begun empty_state
left_by store (stopped_in_form one other) = still_at_rest store one other
left_by store (committed inputs) = having_committed store inputs
left_by store handed_out = having_handed_out store
left_by store (handed_some n) = having_handed_some store n
left_by store (stopped n one other) = at_rest one other
left_by store (stopped_in_commit inputs n one other) = at_rest one other
left_by store (recovered s) = begun s
left_by store (stopped_in_recovery one other) = still_at_rest store one other
left_by store (refused one other) = still_at_rest store one other

-- each incident is permitted, in turn
abbrev pub Happens : Store → List Incident → Type 0
Happens store [] = Unit {0}
Happens store (i ∷ is) = Permits store i × Happens (left_by store i) is

-- the store that they leave
abbrev pub left_by_all : Store → List Incident → Store
left_by_all store [] = store
left_by_all store (i ∷ is) = left_by_all (left_by store i) is
