-- What a disk holds, what a crash may leave of it, and what its calls do.
--
-- A disk is a list of bytes with two marks: how long it was at the last sync that succeeded, and which bytes were
-- written since. A crash keeps what neither mark excuses. Time is counted in moments, which stand between calls: at
-- each moment the disk holds something, and `IsImage` says what a crash may leave of it. A promise about a stop at
-- any moment is then a promise about each moment and each image.
--
-- A stop may also come within a call. The moments between calls cover it:
-- * Within a write some of its bytes are stored, in any order, and the length has grown by any part of what it will.
--   Once the whole write is done its range is touched and the length is the full one. So a crash then may leave any
--   bytes in that range, and any length from the synced one to the full one. Whatever a stop within the write leaves
--   is among that. A promise speaks of every disk, and so of that one too on which the same write goes through. The
--   law `StopWithinAWrite`, below, is this argument, and it is proved.
-- * Within a sync each byte is as before or made stable. What a stop then leaves, a crash before the sync may leave:
--   the law `StopWithinASync`, below.
-- * A read and the question for the length change nothing.
use Rattle.std.specs.Prelude.{◌≡◌, ◌⊎◌, ◌<◌, ◌≤◌, ◌+◌, ◌-◌, ◌^◌, ℕ, min, max, Bool, false, true, List, ◌++◌, length}
use Rattle.std.specs.Prelude.{take, drop, slice_index, Result, MatchResult}

-- what a disk holds at a moment
pub record Contents : Type 0 where
  -- the bytes that a read gives
  pub bytes : List ℕ
  -- the length at the last sync that succeeded
  pub synced : ℕ
  -- whether a write has touched the byte at this offset since that sync
  pub touched : ℕ → Bool

-- A crash may leave this: its length lies between the synced and the present one, and below the synced one each byte
-- that is not touched is as it was.
pub record IsImage (now : Contents) (image : List ℕ) : Type 0 where
  pub no_shorter : now.synced ≤ length image
  pub no_longer : length image ≤ length now.bytes
  pub untouched : (i : ℕ) → i < now.synced → now.touched i ≡ false → slice_index image i ≡ slice_index now.bytes i

-- A crash leaves what a read gives, and nothing else.
pub record IsStable (now : Contents) : Type 0 where
  pub length : now.synced ≡ length now.bytes
  pub none_touched : (i : ℕ) → i < now.synced → now.touched i ≡ false

-- the old bytes with these in their place from an offset on, and longer if these reach past the end
abbrev pub overwritten_bytes : List ℕ → ℕ → List ℕ → List ℕ
overwritten_bytes old at bytes = take at old ++ bytes ++ drop (at + length bytes) old

-- any bytes in the n from `at` on, the same elsewhere, and no shorter
pub record Torn (at n : ℕ) (old new : List ℕ) : Type 0 where
  pub before : take at new ≡ take at old
  pub after : drop (at + n) new ≡ drop (at + n) old
  pub no_shorter : length old ≤ length new
  pub no_longer : length new ≤ max (length old) (at + n)

-- what a write of n bytes at `at` does, whether it succeeds or fails
pub record Writes (at n : ℕ) (old new : Contents) : Type 0 where
  pub torn : Torn at n old.bytes new.bytes
  pub synced : new.synced ≡ old.synced
  pub elsewhere : (i : ℕ) → (i < at) ⊎ (at + n ≤ i) → new.touched i ≡ old.touched i

-- each of the n bytes from `at` on is touched
abbrev pub AllTouched : ℕ → ℕ → Contents → Type 0
AllTouched at n now = (i : ℕ) → at ≤ i → i < at + n → now.touched i ≡ true

-- The clock goes on: what was held at each moment up to `before` stays, and what is held after it up to now is the
-- present.
pub record Elapses (before now : ℕ) (past since : ℕ → Contents) (present : Contents) : Type 0 where
  pub later : before ≤ now
  pub same : (k : ℕ) → k ≤ before → since k ≡ past k
  pub rest : (k : ℕ) → before < k → k ≤ now → since k ≡ present

-- A crash at any moment from `old` on up to `new` leaves only what has P. What was held up to `old` is as it was.
pub record LeavesAtEachMoment {D : Type 0} (moment : D → ℕ) (held_at : D → ℕ → Contents) (old new : D)
    (P : List ℕ → Type 0) : Type 0 where
  pub later : moment old ≤ moment new
  pub same : (k : ℕ) → k ≤ moment old → held_at new k ≡ held_at old k
  pub each : (k : ℕ) → moment old ≤ k → k ≤ moment new → (image : List ℕ) → IsImage (held_at new k) image → P image

-- one more, up to the last number of 64 bits
abbrev pub one_more : ℕ → ℕ
one_more n = min (n + 1) (2 ^ 64 - 1)

-- A count of failures rose, or stands at that last number.
abbrev pub MoreFailures : ℕ → ℕ → Type 0
MoreFailures old new = one_more old ≤ new

-- The count stays at `Ok`. At `Err` it does not fall, and rose or stands at its last value.
abbrev pub CountsFailure : {T E : Type 0} → Result T E → ℕ → ℕ → Type 0
CountsFailure result old new = MatchResult result (λ _. new ≡ old) (λ _. MoreFailures old new × (old ≤ new))

-- What a stop within a write may leave of `part`, however far the write came, a crash after the whole write may leave.
abbrev pub StopWithinAWrite : Type 0
StopWithinAWrite =
    (at : ℕ) (bytes : List ℕ) (old part whole : Contents)
    → at ≤ length old.bytes
    → Writes at (length bytes) old part
    → Writes at (length bytes) old whole
    → whole.bytes ≡ overwritten_bytes old.bytes at bytes
    → AllTouched at (length bytes) whole
    → (image : List ℕ) → IsImage part image → IsImage whole image

-- A part of a sync: the bytes are the same, and no more of them are left to a crash than before.
pub record SyncsSome (old part : Contents) : Type 0 where
  pub same : part.bytes ≡ old.bytes
  pub no_less : old.synced ≤ part.synced
  pub untouched : (i : ℕ) → i < old.synced → old.touched i ≡ false → part.touched i ≡ false

-- What a stop within a sync may leave, however far the sync came, a crash before it may leave.
abbrev pub StopWithinASync : Type 0
StopWithinASync = (old part : Contents) → SyncsSome old part → (image : List ℕ) → IsImage part image → IsImage old image

-- Of a stable disk a crash leaves what a read gives.
abbrev pub StableLeavesWhatIsRead : Type 0
StableLeavesWhatIsRead = (now : Contents) (image : List ℕ) → IsStable now → IsImage now image → image ≡ now.bytes

-- After one write to a stable disk a crash leaves any bytes in the range of that write, and the same elsewhere.
abbrev pub WriteLeavesTorn : Type 0
WriteLeavesTorn =
    (at n : ℕ) (old new : Contents) (image : List ℕ)
    → at ≤ length old.bytes
    → IsStable old
    → Writes at n old new
    → IsImage new image
    → Torn at n old.bytes image
