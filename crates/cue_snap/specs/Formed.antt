-- What a pair has that was just formed.
use Rattle.std.specs.Prelude.{◌≡◌, ◌+◌, ℕ, List, length, false, true}
use Rattle.cue_disk.specs.declared.disk.Disk.{Ghosts}
use Rattle.cue_disk.specs.Disk.{overwritten_bytes}
use Rattle.cue_log.specs.Area.{fresh, formed_text}
use Rattle.cue_log.specs.declared.area.TheConstants.{HEAD_LEN}
use Rattle.cue_snap.specs.declared.snap.Snap.{Snap}
use Rattle.cue_snap.specs.Observed.{first_of, is_first_live, generation_of, end_of, count_of, is_broken, live_area_of}

-- It works, and its first disk has an area of generation 1 with this snapshot and no record.
pub record IsFirst {D : Type 0} {disk : Ghosts D} (first : D) (snapshot : List ℕ) (snap : Snap D disk) : Type 0 where
  pub works : is_broken snap ≡ false
  pub sides : is_first_live snap ≡ true
  pub generation : generation_of snap ≡ 1
  pub count : count_of snap ≡ 0
  pub end : end_of snap ≡ HEAD_LEN + length snapshot
  pub area : disk.is_honest first → live_area_of disk.held snap ≡ fresh 1 snapshot
  pub bytes :
      disk.is_honest first
      → (disk.held (first_of snap)).bytes ≡ overwritten_bytes (disk.held first).bytes 0 (formed_text 1 snapshot)
