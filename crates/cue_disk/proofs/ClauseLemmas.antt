-- What the exact effect of a write or a sync means for a crash.
use Rattle.std.proofs.Common.{◌≡◌, ◌⊎◌, ℕ, ◌+◌, ◌/◌, ◌<◌, ◌≤◌, Bool, true, false, nat_le, nat_lt, ◌&&◌, ◌||◌, List}
use Rattle.std.proofs.Common.{length, take, Result, Ok, Err, is_ok, not, OnOk, refl, ◌∙◌, ap, ⊎_elim, arith}
use Rattle.std.proofs.lemmas.List.{length-take}
use Rattle.std.proofs.lemmas.Bool.{or_right, and_from, and_left, and_right, le-leb, lt-leb, lt-ltb, le-ltb}
use Rattle.cue_disk.specs.Disk.{Contents, IsImage, IsStable, Writes, AllTouched}
use Rattle.cue_disk.specs.Effect.{after_write, written_as, synced_as, settled_contents}
use Rattle.cue_disk.specs.Plan.{goes_through}
use Rattle.cue_disk.specs.declared.plan.CallOutcome.{CallOutcome}
use Rattle.cue_disk.specs.declared.plan.CallOutcome.TheVariants.{Succeeds, Fails, Stopped}
use Rattle.cue_disk.proofs.CrashLemmas.{overwritten_torn}

or_false : (b : Bool) → (b || false) ≡ b
or_false true = refl
or_false false = refl

-- a test of a range, outside of it
outside_range : (at n i : ℕ) → (i < at) ⊎ (at + n ≤ i) → (nat_le at i && nat_lt i (at + n)) ≡ false
outside_range at n i outside = ⊎_elim (λ low. and_left (nat_le at i) (nat_lt i (at + n)) (lt-leb at i low))
    (λ past. and_right (nat_le at i) (nat_lt i (at + n)) (le-ltb i (at + n) past)) outside

-- a write that stored a part of its bytes
after_write_writes : (now : Contents) (at n : ℕ) (stored : List ℕ) → at ≤ length now.bytes → length stored ≤ n
    → Writes at n now (after_write now at n stored)
after_write_writes now at n stored room part = record {
  torn = overwritten_torn now.bytes stored at n room part;
  synced = refl;
  elsewhere = λ i outside. ap (λ (b : Bool). now.touched i || b) (outside_range at n i outside)
      ∙ or_false (now.touched i);
}

-- a write that changed nothing
no_write : (now : Contents) (at n : ℕ) → Writes at n now now
no_write now at n = record {
  torn = record { before = refl; after = refl; no_shorter = omega arith; no_longer = omega arith };
  synced = refl;
  elsewhere = λ i outside. refl;
}

pub written_as_writes : (outcome : CallOutcome) (lacked : Bool) (at : ℕ) (bytes : List ℕ) (now : Contents)
    → at ≤ length now.bytes
    → Writes at (length bytes) now (written_as outcome lacked at bytes now)
written_as_writes Stopped lacked at bytes now room = no_write now at (length bytes)
written_as_writes Succeeds true at bytes now room = no_write now at (length bytes)
written_as_writes Fails true at bytes now room = no_write now at (length bytes)
written_as_writes Succeeds false at bytes now room = after_write_writes now at (length bytes) bytes room (omega arith)
written_as_writes Fails false at bytes now room =
    after_write_writes now at (length bytes) (take (length bytes / 2) bytes) room
    (omega (arith, length-take (length bytes / 2) bytes))

-- A write that went through has touched its range.
pub written_as_touched : {T E : Type 0} (result : Result T E) (outcome : CallOutcome) (lacked : Bool) (at : ℕ)
    (bytes : List ℕ) (now : Contents) → is_ok result ≡ (goes_through outcome && not lacked)
    → OnOk result (AllTouched at (length bytes) (written_as outcome lacked at bytes now))
written_as_touched (Err e) outcome lacked at bytes now goes = tt
written_as_touched (Ok x) Succeeds false at bytes now goes =
    λ i from to. or_right (now.touched i) (nat_le at i && nat_lt i (at + length bytes))
    (and_from (nat_le at i) (nat_lt i (at + length bytes)) (le-leb at i from) (lt-ltb i (at + length bytes) to))
written_as_touched (Ok x) Succeeds true at bytes now goes = absurd (cc)
written_as_touched (Ok x) Fails lacked at bytes now goes = absurd (cc)
written_as_touched (Ok x) Stopped lacked at bytes now goes = absurd (cc)

-- what is settled is stable
settled_stable : (bytes : List ℕ) → IsStable (settled_contents bytes)
settled_stable bytes = record { length = refl; none_touched = λ i within. lt-leb (length bytes) i within }

-- A sync that went through has made all stable.
pub synced_as_stable : {T E : Type 0} (result : Result T E) (outcome : CallOutcome) (lacked : Bool) (now : Contents)
    → is_ok result ≡ (goes_through outcome && not lacked) → OnOk result (IsStable (synced_as outcome lacked now))
synced_as_stable (Err e) outcome lacked now goes = tt
synced_as_stable (Ok x) Succeeds false now goes = settled_stable now.bytes
synced_as_stable (Ok x) Succeeds true now goes = absurd (cc)
synced_as_stable (Ok x) Fails lacked now goes = absurd (cc)
synced_as_stable (Ok x) Stopped lacked now goes = absurd (cc)

-- what a crash leaves after a sync is one of the images from before it
settled_images : (now : Contents) → now.synced ≤ length now.bytes → (image : List ℕ)
    → IsImage (settled_contents now.bytes) image
    → IsImage now image
settled_images now within image left = record {
  no_shorter = omega (arith, left.no_shorter);
  no_longer = left.no_longer;
  untouched = λ i low clean. left.untouched i (omega arith) (lt-leb (length now.bytes) i (omega arith));
}

pub synced_as_images : (outcome : CallOutcome) (lacked : Bool) (now : Contents) → now.synced ≤ length now.bytes
    → (image : List ℕ)
    → IsImage (synced_as outcome lacked now) image → IsImage now image
synced_as_images Succeeds false now within image left = settled_images now within image left
synced_as_images Succeeds true now within image left = left
synced_as_images Fails lacked now within image left = left
synced_as_images Stopped lacked now within image left = left
