-- What a crash leaves after a write, and after a sync.
use Rattle.std.proofs.Common.{◌≡◌, ◌⊎◌, ℕ, ◌+◌, ◌-◌, ◌<◌, ◌≤◌, max, List, ◌++◌, length, get_or, take, drop, inl, inr}
use Rattle.std.proofs.Common.{⊎_elim, sym, ◌∙◌, ap, subst, arith, length-append, length-drop}
use Rattle.std.proofs.lemmas.List.{length-take, get_or-take, get_or-drop, get_or_append_left, get_or-append_right}
use Rattle.std.proofs.lemmas.List.{ext_get_or}
use Rattle.std.proofs.lemmas.Bool.{cases_lt, both_ways}
use Rattle.cue_disk.specs.Disk.{Contents, IsImage, IsStable, Torn, Writes, overwritten_bytes, StopWithinAWrite}
use Rattle.cue_disk.specs.Disk.{StopWithinASync}

-- A crash of what is stable leaves what is read.
pub image_stable : (now : Contents) (image : List ℕ) → IsStable now → IsImage now image → image ≡ now.bytes
image_stable now image stable left =
    ext_get_or 0 image now.bytes
    (omega (arith, left.no_shorter, left.no_longer, stable.length))
    (λ i within. left.untouched i (omega (arith, within, left.no_longer, stable.length))
    (stable.none_touched i (omega (arith, within, left.no_longer, stable.length))))

-- the bytes in front of a torn range
torn_front : (at n : ℕ) (old new : List ℕ) → Torn at n old new → (i : ℕ) → i < at → get_or new i 0 ≡ get_or old i 0
torn_front at n old new torn i within = sym (get_or-take at new i 0 within)
    ∙ ap (λ (l : List ℕ). get_or l i 0) torn.before ∙ get_or-take at old i 0 within

-- the bytes after it
torn_behind : (at n : ℕ) (old new : List ℕ) → Torn at n old new → (i : ℕ) → at + n ≤ i → get_or new i 0 ≡ get_or old i 0
torn_behind at n old new torn i past =
    let at_i : at + n + (i - (at + n)) ≡ i = omega arith in
    let there : get_or new (at + n + (i - (at + n))) 0 ≡ get_or old (at + n + (i - (at + n))) 0 =
    sym (get_or-drop (at + n) new (i - (at + n)) 0) ∙ ap (λ (l : List ℕ). get_or l (i - (at + n)) 0) torn.after
    ∙ get_or-drop (at + n) old (i - (at + n)) 0 in
    subst (λ (k : ℕ). get_or new k 0 ≡ get_or old k 0) at_i there

-- outside a torn range the bytes are as they were
pub torn_elsewhere : (at n : ℕ) (old new : List ℕ) → Torn at n old new → (i : ℕ) → (i < at) ⊎ (at + n ≤ i)
    → get_or new i 0 ≡ get_or old i 0
torn_elsewhere at n old new torn i outside = ⊎_elim (torn_front at n old new torn i) (torn_behind at n old new torn i)
    outside

-- bytes that agree outside a range, and no byte less
pub torn_from : (at n : ℕ) (old new : List ℕ) → at ≤ length old → length old ≤ length new
    → length new ≤ max (length old) (at + n)
    → ((i : ℕ) → i < length old → (i < at) ⊎ (at + n ≤ i) → get_or new i 0 ≡ get_or old i 0) → Torn at n old new
torn_from at n old new room longer within same = record {
  before =
      ext_get_or 0 (take at new) (take at old)
      (omega (arith, length-take at new, length-take at old))
      (λ i less.
      let low : i < at = omega (arith, less, length-take at new) in
      get_or-take at new i 0 low ∙ same i (omega arith) (inl low) ∙ sym (get_or-take at old i 0 low));
  after =
      ext_get_or 0 (drop (at + n) new) (drop (at + n) old)
      (omega (arith, length-drop (at + n) new, length-drop (at + n) old))
      (λ i less. get_or-drop (at + n) new i 0
      ∙ same (at + n + i) (omega (arith, less, length-drop (at + n) new)) (inr (omega arith))
      ∙ sym (get_or-drop (at + n) old i 0));
  no_shorter = longer;
  no_longer = within;
}

-- A crash after a write to a stable disk leaves any bytes in the range of the write, and the same elsewhere.
pub image_torn : (at n : ℕ) (old new : Contents) (image : List ℕ) → at ≤ length old.bytes → IsStable old
    → Writes at n old new → IsImage new image → Torn at n old.bytes image
image_torn at n old new image room stable writes left =
    torn_from at n old.bytes image room
    (omega (arith, left.no_shorter, writes.synced, stable.length))
    (omega (arith, left.no_longer, writes.torn.no_longer))
    (λ i within outside.
    left.untouched i (omega (arith, within, writes.synced, stable.length)) (writes.elsewhere i outside
    ∙ stable.none_touched i (omega (arith, within, stable.length)))
    ∙ torn_elsewhere at n old.bytes new.bytes writes.torn i outside)

-- what is overwritten is no shorter than before, and ends where the later of the two ends
pub length-overwritten : (old bytes : List ℕ) (at : ℕ) → at ≤ length old
    → length (overwritten_bytes old at bytes) ≡ max (length old) (at + length bytes)
length-overwritten old bytes at room =
    omega (
      arith,
      length-append (take at old ++ bytes) (drop (at + length bytes) old),
      length-append (take at old)
          bytes,
      length-take at old,
      length-drop (at + length bytes) old,
    )

-- in front of the range
pub overwritten_front : (old bytes : List ℕ) (at i : ℕ) → at ≤ length old
    → i < at → get_or (overwritten_bytes old at bytes) i 0 ≡ get_or old i 0
overwritten_front old bytes at i room low =
    let long : length (take at old) ≡ at = omega (arith, length-take at old) in
    get_or_append_left (take at old ++ bytes) (drop (at + length bytes) old) 0 i
    (omega (arith, length-append (take at old) bytes))
    ∙ get_or_append_left (take at old) bytes 0 i (omega arith)
    ∙ get_or-take at old i 0 low

-- within it
pub overwritten_within : (old bytes : List ℕ) (at i : ℕ) → at ≤ length old → i < length bytes
    → get_or (overwritten_bytes old at bytes) (at + i) 0 ≡ get_or bytes i 0
overwritten_within old bytes at i room low =
    let long : length (take at old) ≡ at = omega (arith, length-take at old) in
    get_or_append_left (take at old ++ bytes) (drop (at + length bytes) old) 0 (at + i)
    (omega (arith, length-append (take at old) bytes))
    ∙ get_or-append_right (take at old) bytes at (at + i) 0 long (omega arith)
    ∙ ap (λ (k : ℕ). get_or bytes k 0) (omega arith)

-- and after it
pub overwritten_behind : (old bytes : List ℕ) (at i : ℕ) → at ≤ length old → at + length bytes ≤ i
    → get_or (overwritten_bytes old at bytes) i 0 ≡ get_or old i 0
overwritten_behind old bytes at i room past =
    let long : length (take at old ++ bytes) ≡ at + length bytes =
    omega (arith, length-append (take at old) bytes, length-take at old) in
    get_or-append_right (take at old ++ bytes) (drop (at + length bytes) old) (at + length bytes) i 0 long past
    ∙ get_or-drop (at + length bytes) old (i - (at + length bytes)) 0
    ∙ ap (λ (k : ℕ). get_or old k 0) (omega arith)

-- A write that stored the first bytes of a range has torn that range.
pub overwritten_torn : (old bytes : List ℕ) (at n : ℕ) → at ≤ length old → length bytes ≤ n
    → Torn at n old (overwritten_bytes old at bytes)
overwritten_torn old bytes at n room fits =
    torn_from at n old (overwritten_bytes old at bytes) room
    (omega (arith, length-overwritten old bytes at room))
    (omega (arith, length-overwritten old bytes at room))
    (λ i within outside. ⊎_elim (λ low. overwritten_front old bytes at i room low)
    (λ past. overwritten_behind old bytes at i room (omega arith)) outside)

-- What a stop within a write may leave, a crash after the whole write may leave.
pub stop_within_a_write : StopWithinAWrite
stop_within_a_write at bytes old part whole room does_part does_whole stored all_touched image left = record {
  no_shorter = omega (arith, left.no_shorter, does_part.synced, does_whole.synced);
  no_longer = omega (
    arith,
    left.no_longer,
    does_part.torn.no_longer,
    ap length stored,
    length-overwritten old.bytes
        bytes at room,
  );
  untouched = λ i within clean.
      let outside : (i < at) ⊎ (at + length bytes ≤ i) =
      ⊎_elim
      (λ (low : i < at). inl low)
      (λ (high : at ≤ i).
      ⊎_elim
      (λ (inside : i < at + length bytes). absurd (both_ways (whole.touched i) clean (all_touched i high inside)))
      (λ (past : at + length bytes ≤ i). inr past)
      (cases_lt i (at + length bytes)))
      (cases_lt i at) in
      left.untouched i (omega (arith, within, does_part.synced, does_whole.synced)) (does_part.elsewhere i outside
      ∙ sym (does_whole.elsewhere i outside) ∙ clean)
      ∙ torn_elsewhere at (length bytes) old.bytes part.bytes does_part.torn i outside
      ∙ sym (torn_elsewhere at (length bytes) old.bytes whole.bytes does_whole.torn i outside);
}

-- What a stop within a sync may leave, a crash before it may leave.
pub stop_within_a_sync : StopWithinASync
stop_within_a_sync old part some image left = record {
  no_shorter = omega (arith, left.no_shorter, some.no_less);
  no_longer = omega (arith, left.no_longer, ap length some.same);
  untouched = λ i within clean. left.untouched i (omega (arith, within, some.no_less)) (some.untouched i within clean)
      ∙ ap (λ (l : List ℕ). get_or l i 0) some.same;
}
