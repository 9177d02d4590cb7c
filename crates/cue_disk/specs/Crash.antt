-- What a crash makes of a memory disk, from a length and the bytes that it is handed.
use Rattle.std.specs.Prelude.{◌≡◌, ◌<◌, ◌≤◌, ◌+◌, ℕ, zero, suc, min, nat_le, Bool, ◌||◌, if◌then◌else◌, List, length}
use Rattle.std.specs.Prelude.{slice_index, slice_index_or}
use Rattle.cue_disk.specs.Disk.{Contents, IsImage}

-- A crash may change this byte: it is touched, or lies past the synced length.
abbrev pub may_change : Contents → ℕ → Bool
may_change now i = now.touched i || nat_le now.synced i

-- how many of the bytes in front of this place a crash may change
abbrev pub changeable_before : Contents → ℕ → ℕ
changeable_before now zero = 0
changeable_before now (suc i) = changeable_before now i + (if may_change now i then 1 else 0)

-- The byte at this place after the crash: the k-th that it may change is the k-th of the junk, or as it was if there
-- is no more junk.
abbrev pub crashed_byte : Contents → List ℕ → ℕ → ℕ
crashed_byte now junk i =
    if may_change now i then slice_index_or junk (changeable_before now i) (slice_index now.bytes i)
    else slice_index now.bytes i

-- As many bytes past the synced ones as are asked for and there are, each as the crash makes it.
pub record IsCrashed (now : Contents) (extra : ℕ) (junk image : List ℕ) : Type 0 where
  pub long : length image ≡ min (now.synced + extra) (length now.bytes)
  pub each : (i : ℕ) → i < length image → slice_index image i ≡ crashed_byte now junk i

-- Some length and some junk make this image. The junk is no longer than the image, and of bytes if the image is.
pub record IsReached (now : Contents) (image : List ℕ) : Type 0 where
  pub extra : ℕ
  pub junk : List ℕ
  pub crashed : IsCrashed now extra junk image
  pub within : now.synced + extra ≤ length now.bytes
  pub few : length junk ≤ length image
  pub bytes : ((i : ℕ) → slice_index image i < 256) → (i : ℕ) → slice_index junk i < 256

-- Each image is reached.
abbrev pub ReachesAllImages : Contents → Type 0
ReachesAllImages now = (image : List ℕ) → IsImage now image → IsReached now image
