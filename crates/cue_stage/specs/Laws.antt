-- What holds of every stage, whatever happens to it.
use Rattle.std.specs.Prelude.{◌≡◌, ◌≤◌, ◌⊎◌, ℕ, true, false, List, [], IsTrue, count_by}
use Rattle.std.specs.List.{AllByRecursion, Contains, list_any}
use Rattle.cue_core.specs.declared.event.Event.{Event}
use Rattle.cue_show.specs.Devices.{is_among}
use Rattle.cue_core.specs.Events.{is_cancel_of, is_excuse_of, is_go_of}
use Rattle.cue_core.specs.Happenings.{onto}
use Rattle.cue_core.specs.History.{devices_by}
use Rattle.cue_core.specs.State.{empty_state}
use Rattle.cue_core.specs.Steps.{after_events}
use Rattle.cue_engine.specs.Headline.{AreKept, HasState, MayRead}
use Rattle.cue_engine.specs.Runs.{joined_list}
use Rattle.cue_device.specs.declared.asked.Command.TheVariants.{Standby, Cancel}
use Rattle.cue_device.specs.declared.asked.Task.{Task}
use Rattle.cue_device.specs.Histories.{hears}
use Rattle.cue_device.specs.Laws.{has_given_up, has_moved, is_move}
use Rattle.cue_stage.specs.Stage.{Beginning, Happening, Happens, incidents, life_of, orders_by, store_after, tasks_by}
use Rattle.cue_stage.specs.Tasks.{IsForItsTask, IsTaskOf}

-- the device d was ordered to move for the attempt q
abbrev pub WasToMove : Beginning → List Happening → ℕ → ℕ → Type 0
WasToMove from past d q = has_moved q (orders_by from past d) ≡ true

-- the device d was ordered to give up the attempt q
abbrev pub WasToGiveUp : Beginning → List Happening → ℕ → ℕ → Type 0
WasToGiveUp from past d q = has_given_up q (orders_by from past d) ≡ true

-- a CANCEL of the attempt q came to the device d
abbrev pub HeardCancel : Beginning → List Happening → ℕ → ℕ → Type 0
HeardCancel from past d q = Contains (life_of d past) (hears (Cancel q))

-- a STANDBY of the attempt q with this task came to the device d
abbrev pub HeardStandby : Beginning → List Happening → ℕ → ℕ → Task → Type 0
HeardStandby from past d q task = Contains (life_of d past) (hears (Standby q task))

-- The batches that the store keeps: every acknowledged one, and of those of a call that was cut off all or none. They
-- make the state that the store has. They hold the Go of each attempt for which any device was ordered to move, and
-- the Cancel of each of which a CANCEL came to any device, or which any was ordered to give up. By them a device that
-- was ordered to move is one of the attempt's, and was not excused. By them each STANDBY that came to a device gave it
-- its own task: the cue of the attempt, and the part that the device had there as the attempt started. And whatever its
-- machine was ordered in the attempt, to prepare, to move or to give up, was for that task.
--
-- They do not say that all devices of the attempt move: one may fail, restart or never hear its GO_2PC. Nor that one
-- that stood by still holds what it prepared.
pub record KeepsEachDecision (from : Beginning) (past : List Happening) (x y : List ℕ) : Type 0 where
  pub kept : List (List Event)
  pub prefix : AreKept empty_state (incidents past) kept
  pub has : HasState (store_after from past) x y (after_events empty_state (joined_list kept))
  pub decided : (d q : ℕ) → WasToMove from past d q → IsTrue (list_any (is_go_of q) (joined_list kept))
  pub cancelled : (d q : ℕ) → HeardCancel from past d q → IsTrue (list_any (is_cancel_of q) (joined_list kept))
  pub given_up : (d q : ℕ) → WasToGiveUp from past d q → IsTrue (list_any (is_cancel_of q) (joined_list kept))
  pub of_attempt :
      (d q : ℕ)
      → WasToMove from past d q
      → IsTrue (is_among d (devices_by (onto (joined_list kept) []) q))
  pub not_excused : (d q : ℕ) → WasToMove from past d q → list_any (is_excuse_of q d) (joined_list kept) ≡ false
  pub given : (d q : ℕ) (task : Task) → HeardStandby from past d q task → IsTaskOf (joined_list kept) q d task
  pub ordered : (d : ℕ) → AllByRecursion (IsForItsTask (joined_list kept) d) (tasks_by from past d)

-- A move rests on a decision that stays: whatever happens, and whatever the disks then read as, the store keeps the
-- Go of each attempt for which any device was ever ordered to move.
abbrev pub MovesRestOnDecisions : Type 0
MovesRestOnDecisions = (from : Beginning) (past : List Happening) (x y : List ℕ) → Happens from past
    → MayRead (store_after from past) x y → KeepsEachDecision from past x y

-- Not by halves: if one device was ordered to move for an attempt, no CANCEL of it comes to any, and none is ordered to
-- give it up; and the other way round.
abbrev pub NotByHalves : Type 0
NotByHalves = (from : Beginning) (past : List Happening) (x y : List ℕ) (d e q : ℕ) → Happens from past
    → MayRead (store_after from past) x y → WasToMove from past d q
    → HeardCancel from past e q ⊎ WasToGiveUp from past e q → ⊥

-- Once: a device is ordered to move for an attempt at most once, whatever the network repeats and however often the
-- power is lost.
abbrev pub MovesOnce : Type 0
MovesOnce = (from : Beginning) (past : List Happening) (d q : ℕ) → Happens from past
    → count_by (is_move q) (orders_by from past d) ≤ 1
