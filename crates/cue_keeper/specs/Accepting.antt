-- What a call that accepts batches does to a store, whether it succeeds or fails: the one word for it in each layer.
-- One batch is a list of one.
use Rattle.std.specs.Prelude.{◌≡◌, ◌⊎◌, ◌≤◌, ◌+◌, ◌↔◌, if◌then◌else◌, false, true}
use Rattle.std.specs.Prelude.{List, []}
use Rattle.std.specs.Prelude.{length}
use Rattle.std.specs.Prelude.{Option, Some, MatchOption, IfSome, IfNone, ⊤}
use Rattle.cue_disk.specs.declared.disk.Disk.{Ghosts}
use Rattle.cue_disk.specs.Disk.{Contents}
use Rattle.cue_disk.specs.Disk.{MoreFailures}
use Rattle.cue_snap.specs.declared.snap.Snap.{Snap}
use Rattle.cue_log.specs.Area.{Area, fresh, with_payloads}
use Rattle.cue_snap.specs.Observed.{first_of, second_of, is_broken, generation_of, count_of, live_area_of}
use Rattle.cue_core.specs.declared.event.Event.{Event}
use Rattle.cue_core.specs.State.{ShowState}
use Rattle.cue_records.specs.State.{state_text}
use Rattle.cue_keeper.specs.declared.fault.Fault.{Fault}
use Rattle.cue_keeper.specs.declared.fault.Fault.TheVariants as fault
use Rattle.cue_keeper.specs.declared.keeper.Keeper.{Keeper}
use Rattle.cue_keeper.specs.Turning.{lack_room, IsInTheWay}
use Rattle.cue_keeper.specs.Groups.{with_events, records_of}
use Rattle.cue_keeper.specs.Pairs.{LeavesPairsAtEachMoment}
use Rattle.cue_keeper.specs.Stands.{StandsEither, StandsAs, folded_all}
use Rattle.cue_keeper.specs.Observed as kept

-- a device call failed on one of the two disks
abbrev pub HasFailed : {D : Type 0} {disk : Ghosts D} → Snap D disk → Snap D disk → Type 0
HasFailed {D} {disk} old new =
    MoreFailures (disk.failures (first_of old)) (disk.failures (first_of new))
    ⊎ MoreFailures (disk.failures (second_of old)) (disk.failures (second_of new))

-- why batches are refused with this fault
abbrev pub HasCause : {D : Type 0} {disk : Ghosts D} → List (List Event) → (old new : Snap D disk) → Fault → Type 0
HasCause batches old new fault.Broken = is_broken old ≡ true
HasCause batches old new fault.Memory = ⊤
HasCause batches old new fault.Exhausted = IsInTheWay old batches fault.Exhausted
HasCause batches old new fault.Full = IsInTheWay old batches fault.Full
HasCause batches old new fault.Disk = HasFailed old new

-- What is left of the pair: only a device's own failure has changed anything, and it breaks the pair.
abbrev pub LeavesPair : {D : Type 0} {disk : Ghosts D} → Snap D disk → Snap D disk → Fault → Type 0
LeavesPair old new fault.Broken = new ≡ old
LeavesPair old new fault.Memory = new ≡ old
LeavesPair old new fault.Exhausted = new ≡ old
LeavesPair old new fault.Full = new ≡ old
LeavesPair old new fault.Disk = is_broken new ≡ true

-- the area into which the batches go: the live one, or a new one that has the state as it is written today
abbrev pub area_for : {D : Type 0} {disk : Ghosts D} → (D → Contents) → ShowState → Snap D disk → List (List Event)
    → Area
area_for held s snap batches =
    if lack_room snap batches then fresh (generation_of snap + 1) (state_text s) else live_area_of held snap

-- Batches are given to a pair that stands for a state. With no fault they are on the disks, each whole, and whatever a
-- stop leaves has none of them or all.
pub record Commits {D : Type 0} {disk : Ghosts D} (s : ShowState) (batches : List (List Event)) (refused : Option Fault)
    (old new : Snap D disk) : Type 0 where
  -- each fault has its reason
  pub cause : IfSome refused (HasCause batches old new)
  pub after : IfSome refused (LeavesPair old new)
  -- Broken comes first, then Memory, then Exhausted or Full: if memory is there, it comes wherever it can.
  pub broken : is_broken old ≡ true → refused ≡ Some fault.Broken
  pub in_the_way :
      is_broken old ≡ false
      → (f : Fault)
      → IsInTheWay old batches f
      → (refused ≡ Some fault.Memory) ⊎ (refused ≡ Some f)
  -- if no batch has an event, there is no device call
  pub quiet : with_events batches ≡ [] → new ≡ old
  pub works : IfNone refused (is_broken new ≡ false)
  -- each batch that has an event is a record of the live area, in order; a new one has no other
  pub generation :
      IfNone refused
      (generation_of new ≡ (if lack_room old batches then generation_of old + 1 else generation_of old))
  pub count :
      IfNone refused
      (count_of new ≡ (if lack_room old batches then 0 else count_of old) + length (with_events batches))
  pub area :
      disk.is_honest (first_of old)
      → disk.is_honest (second_of old)
      → IfNone refused
      (live_area_of disk.held new ≡ with_payloads (area_for disk.held s old batches) (records_of batches))
  -- a stop at any moment leaves the state from before or the one after all of them
  pub any_moment :
      disk.is_honest (first_of old)
      → disk.is_honest (second_of old)
      → is_broken old ≡ false
      → LeavesPairsAtEachMoment disk.moment disk.held_at (first_of old) (second_of old) (first_of new) (second_of new)
      (StandsEither s (folded_all s batches))
  pub first_failures : disk.failures (first_of old) ≤ disk.failures (first_of new)
  pub second_failures : disk.failures (second_of old) ≤ disk.failures (second_of new)
  pub first_honest : disk.is_honest (first_of new) ↔ disk.is_honest (first_of old)
  pub second_honest : disk.is_honest (second_of new) ↔ disk.is_honest (second_of old)

-- Batches are given to a keeper.
pub record Accepts {D : Type 0} {disk : Ghosts D} (batches : List (List Event)) (refused : Option Fault)
    (old new : Keeper D disk) : Type 0 where
  -- the state after all of them, and on a fault the old one
  pub state :
      MatchOption refused
      (kept.state_of new ≡ folded_all (kept.state_of old) batches)
      (λ _. kept.state_of new ≡ kept.state_of old)
  -- from Ok on whatever a stop leaves stands for it
  pub stands :
      disk.is_honest (kept.first_of old)
      → disk.is_honest (kept.second_of old)
      → IfNone refused
      (StandsAs (disk.held (kept.first_of new)) (disk.held (kept.second_of new))
      (folded_all (kept.state_of old) batches))
  pub pair : Commits (kept.state_of old) batches refused (kept.pair_of old) (kept.pair_of new)
