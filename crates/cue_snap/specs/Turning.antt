-- What a turn-over does to a pair, whether it succeeds or fails.
use Rattle.std.specs.Prelude.{◌≡◌, ◌+◌, ◌-◌, ◌^◌, ℕ, List, length, false, true, not}
use Rattle.std.specs.Prelude.{Result, OnOk, IfErr, IsErrOf}
use Rattle.cue_disk.specs.declared.disk.Disk.{Ghosts}
use Rattle.cue_disk.specs.Disk.{IsImage, LeavesAtEachMoment, MoreFailures, overwritten_bytes}
use Rattle.cue_log.specs.Area.{Area, fresh, formed_text}
use Rattle.cue_log.specs.declared.area.TheConstants.{HEAD_LEN}
use Rattle.cue_snap.specs.declared.snap.Snap.{Snap}
use Rattle.cue_snap.specs.declared.snap.TurnOverFault.{TurnOverFault}
use Rattle.cue_snap.specs.declared.snap.TurnOverFault.TheVariants as fault
use Rattle.cue_snap.specs.Pair.{PairIsEither, PairLeaves}
use Rattle.cue_snap.specs.Disks.{Keeps}
use Rattle.cue_snap.specs.Observed.{live_of, spare_of, is_first_live, generation_of, end_of, count_of, is_broken}
use Rattle.cue_snap.specs.Observed.{live_area_of, turned_disk}

-- no generation is left for a new area
abbrev pub IsAtTheEnd : {D : Type 0} {disk : Ghosts D} → Snap D disk → Type 0
IsAtTheEnd snap = generation_of snap ≡ 2 ^ 64 - 1

-- the area that is formed: the next generation, this snapshot, and no record
abbrev pub turned_area : {D : Type 0} {disk : Ghosts D} → Snap D disk → List ℕ → Area
turned_area old snapshot = fresh (generation_of old + 1) snapshot

-- why a pair is not turned over
abbrev pub CannotTurn : {D : Type 0} {disk : Ghosts D} → (old new : Snap D disk) → TurnOverFault → Type 0
CannotTurn old new fault.Broken = is_broken old ≡ true
CannotTurn old new fault.Exhausted = (is_broken old ≡ false) × IsAtTheEnd old
CannotTurn {D} {disk} old new fault.Disk =
    (is_broken old ≡ false) × MoreFailures (disk.failures (spare_of old)) (disk.failures (spare_of new))

-- The pair is broken, and the live disk is not touched.
pub record IsStuck {D : Type 0} {disk : Ghosts D} (old new : Snap D disk) : Type 0 where
  pub broken : is_broken new ≡ true
  pub live : live_of new ≡ live_of old
  pub sides : is_first_live new ≡ is_first_live old
  pub generation : generation_of new ≡ generation_of old
  pub count : count_of new ≡ count_of old
  pub end : end_of new ≡ end_of old

-- what is left of the pair: only a device's own failure has changed anything, and it breaks the pair
abbrev pub LeavesUnturned : {D : Type 0} {disk : Ghosts D} → (old new : Snap D disk) → TurnOverFault → Type 0
LeavesUnturned old new fault.Broken = new ≡ old
LeavesUnturned old new fault.Exhausted = new ≡ old
LeavesUnturned old new fault.Disk = IsStuck old new

-- The two disks have changed places; the one that was live is not touched.
pub record IsTurned {D : Type 0} {disk : Ghosts D} (snapshot : List ℕ) (old new : Snap D disk) : Type 0 where
  pub works : is_broken new ≡ false
  pub swapped : spare_of new ≡ live_of old
  pub sides : is_first_live new ≡ not (is_first_live old)
  pub generation : generation_of new ≡ generation_of old + 1
  pub count : count_of new ≡ 0
  pub end : end_of new ≡ HEAD_LEN + length snapshot

-- A pair is turned over.
pub record TurnsOver {T D : Type 0} {disk : Ghosts D} (snapshot : List ℕ) (result : Result T TurnOverFault)
    (old new : Snap D disk) : Type 0 where
  -- each fault has its reason
  pub cause : IfErr result (CannotTurn old new)
  pub after : IfErr result (LeavesUnturned old new)
  -- Broken comes first, then Exhausted: each wherever it can
  pub broken : is_broken old ≡ true → IsErrOf result fault.Broken
  pub exhausted : is_broken old ≡ false → IsAtTheEnd old → IsErrOf result fault.Exhausted
  pub turned : OnOk result (IsTurned snapshot old new)
  -- after Ok the new area is there, whatever a stop leaves
  pub formed :
      disk.is_honest (live_of old)
      → disk.is_honest (spare_of old)
      → OnOk result (PairLeaves (disk.held (live_of new)) (disk.held (spare_of new)) (turned_area old snapshot))
  pub area : disk.is_honest (spare_of old) → OnOk result (live_area_of disk.held new ≡ turned_area old snapshot)
  pub bytes :
      disk.is_honest (spare_of old)
      → OnOk result
      ((disk.held (live_of new)).bytes
      ≡ overwritten_bytes (disk.held (spare_of old)).bytes 0 (formed_text (generation_of old + 1) snapshot))
  -- a stop at any moment leaves the area as it was, or the new one
  pub any_moment :
      disk.is_honest (live_of old)
      → disk.is_honest (spare_of old)
      → is_broken old ≡ false
      → (x : List ℕ)
      → IsImage (disk.held (live_of old)) x
      → LeavesAtEachMoment disk.moment disk.held_at (spare_of old) (turned_disk result new)
      (PairIsEither (live_area_of disk.held old) (turned_area old snapshot) x)
  pub spare : Keeps disk (spare_of old) (turned_disk result new)
