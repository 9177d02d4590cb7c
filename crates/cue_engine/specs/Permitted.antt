-- What the contracts of the calls say of the disks permits each incident: so `Permits` is no second account of the
-- calls.
--
-- Each premise is the predicate that a clause of `Engine` has, in its words. `held`, `held_at`, `moment` and
-- `is_honest` are those of the disk's trait.
use Rattle.std.specs.Prelude.{◌≡◌, ◌⊎◌, ◌≤◌, ℕ, List}
use Rattle.cue_disk.specs.Disk.{Contents, IsImage, LeavesAtEachMoment}
use Rattle.cue_disk.specs.Effect.{settled_contents}
use Rattle.cue_snap.specs.Pair.{AfterBarrier, IsUnformedOr}
use Rattle.cue_core.specs.State.{ShowState}
use Rattle.cue_keeper.specs.Pairs.{LeavesPairsAtEachMoment}
use Rattle.cue_keeper.specs.Stands.{StandsEither, StandsAs, first_area, folded_all}
use Rattle.cue_outbox.specs.Sending.{Send}
use Rattle.cue_engine.specs.Given.{Input}
use Rattle.cue_engine.specs.Groups.{batches_given}
use Rattle.cue_engine.specs.Recovery.{ClosedFrom, IsLeftOrStands}
use Rattle.cue_engine.specs.Incidents.{stopped_in_form, stopped, stopped_in_commit, recovered}
use Rattle.cue_engine.specs.Incidents.{stopped_in_recovery, refused, Store, running, at_rest, unformed, Permits}

-- ---- when a stop comes, and what the disks hold after it

-- What a crash may leave of the disk now, it might have left of what the disk held then.
abbrev pub IsWithin : Contents → Contents → Type 0
IsWithin then_held now = (image : List ℕ) → IsImage now image → IsImage then_held image

-- the moment is one from the first to the last
abbrev pub IsFromTo : ℕ → ℕ → ℕ → Type 0
IsFromTo first last k = (first ≤ k) × (k ≤ last)

-- A stop finds the one disk at moment i and the other at moment j: both up to the barrier, or both from it on.
abbrev pub IsStop : {D : Type 0} (moment : D → ℕ) (held_at : D → ℕ → Contents) (a b new_a new_b : D)
    (P : List ℕ → List ℕ → Type 0) → AfterBarrier moment held_at a b new_a new_b P → ℕ → ℕ → Type 0
IsStop moment held_at a b new_a new_b P barrier i j =
    (IsFromTo (moment a) barrier.at_a i × IsFromTo (moment b) barrier.at_b j)
    ⊎ (IsFromTo barrier.at_a (moment new_a) i × IsFromTo barrier.at_b (moment new_b) j)

-- no engine runs, and the disks hold these
abbrev pub IsOnDisks : Store → Contents → Contents → Type 0
IsOnDisks store one other = (store ≡ at_rest one other) ⊎ (store ≡ unformed one other)

-- ---- the laws

-- Disks that power loss left with these bytes, and nothing else, are within what they held.
abbrev pub PowerLossIsWithin : Type 0
PowerLossIsWithin = (then_held : Contents) (bytes : List ℕ) → IsImage then_held bytes
    → IsWithin then_held (settled_contents bytes)

-- Between two calls (`accepts` of `take` and `commit`, `formed` of `form`, `stands` of `recover`, `state` and `close`):
-- a stop is permitted.
abbrev pub StopIsPermitted : {D : Type 0} (held : D → Contents) → Type 0
StopIsPermitted {D} held =
    (s : ShowState) (owed : List (ℕ × Send)) (n : ℕ) (a b : D) (one other : Contents)
    → StandsAs (held a) (held b) s
    → IsWithin (held a) one → IsWithin (held b) other
    → Permits (running s owed) (stopped n one other)

-- Within `take` or `commit` of these inputs (`any_moment`): a stop that finds each disk at any of its moments is
-- permitted.
abbrev pub StopInCommitIsPermitted : {D : Type 0} (moment : D → ℕ) (held_at : D → ℕ → Contents) → Type 0
StopInCommitIsPermitted {D} moment held_at =
    (s : ShowState) (owed : List (ℕ × Send)) (inputs : List (ℕ × Input)) (n : ℕ) (a b new_a new_b : D)
    (i j : ℕ) (one other : Contents)
    → LeavesPairsAtEachMoment moment held_at a b new_a new_b (StandsEither s (folded_all s (batches_given s inputs)))
    → IsFromTo (moment a) (moment new_a) i → IsFromTo (moment b) (moment new_b) j
    → IsWithin (held_at new_a i) one → IsWithin (held_at new_b j) other
    → Permits (running s owed) (stopped_in_commit inputs n one other)

-- Within `recover` (`any_moment`): a stop before its barrier or from it on is permitted.
abbrev pub StopInRecoveryIsPermitted : {D : Type 0} (moment : D → ℕ) (held : D → Contents) (held_at : D → ℕ → Contents)
    (is_honest : D → Type 0) → Type 0
StopInRecoveryIsPermitted {D} moment held held_at is_honest =
    (store : Store) (a b new_a new_b : D) (i j : ℕ) (one other : Contents)
    → is_honest a → is_honest b → IsOnDisks store (held a) (held b)
    → (barrier : AfterBarrier moment held_at a b new_a new_b (IsLeftOrStands (held a) (held b)))
    → IsStop moment held_at a b new_a new_b (IsLeftOrStands (held a) (held b)) barrier i j
    → IsWithin (held_at new_a i) one → IsWithin (held_at new_b j) other
    → Permits store (stopped_in_recovery one other)

-- Within `form` (`any_moment`): the same, on disks on which no store is formed yet.
abbrev pub StopInFormIsPermitted : {D : Type 0} (moment : D → ℕ) (held : D → Contents) (held_at : D → ℕ → Contents)
    (is_honest : D → Type 0) → Type 0
StopInFormIsPermitted {D} moment held held_at is_honest =
    (a b new_a new_b : D) (i j : ℕ) (one other : Contents)
    → is_honest a → is_honest b
    → (barrier : AfterBarrier moment held_at a b new_a new_b (IsUnformedOr first_area (held a) (held b)))
    → IsStop moment held_at a b new_a new_b (IsUnformedOr first_area (held a) (held b)) barrier i j
    → IsWithin (held_at new_a i) one → IsWithin (held_at new_b j) other
    → Permits (unformed (held a) (held b)) (stopped_in_form one other)

-- `recover` answered Ok (`stood`).
abbrev pub RecoveryIsPermitted : {D : Type 0} (held : D → Contents) (is_honest : D → Type 0) → Type 0
RecoveryIsPermitted {D} held is_honest =
    (store : Store) (a b : D) (s : ShowState)
    → is_honest a → is_honest b → IsOnDisks store (held a) (held b)
    → ClosedFrom (held a).bytes (held b).bytes s
    → Permits store (recovered s)

-- `recover` was refused, and not since a disk failed (`unwritten`).
abbrev pub RefusalIsPermitted : {D : Type 0} (moment : D → ℕ) (held : D → Contents) (held_at : D → ℕ → Contents)
    (is_honest : D → Type 0) → Type 0
RefusalIsPermitted {D} moment held held_at is_honest =
    (store : Store) (a b new_a new_b : D) (one other : Contents)
    → is_honest new_a → is_honest new_b → IsOnDisks store (held a) (held b)
    → LeavesAtEachMoment moment held_at a new_a (IsImage (held a))
    × LeavesAtEachMoment moment held_at b new_b (IsImage (held b))
    → IsWithin (held new_a) one → IsWithin (held new_b) other
    → Permits store (refused one other)
