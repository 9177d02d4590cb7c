-- What has room in an area: batches together with one more, and a state with a batch in a new one.
use Rattle.std.proofs.Common.{◌≡◌, ℕ, ◌+◌, ◌*◌, ◌≤◌, true, false, ◌||◌, List, [], ◌∷◌, ◌++◌, length, sum_by}
use Rattle.std.proofs.Common.{nat_le, nat_lt, IsTrue, refl, sym, ap, subst, arith, length-append}
use Rattle.std.proofs.lemmas.Bool.Decides.{nat_tests}
use Rattle.std.proofs.lemmas.List.Sums.{sum_by-append, sum_by-cons}
use Rattle.cue_log.specs.declared.area.TheConstants.{MAX_AREA, HEAD_LEN, FRAME_LEN, MAX_PAYLOAD}
use Rattle.cue_log.specs.Area.{room_of}
use Rattle.cue_core.specs.declared.event.Event.{Event}
use Rattle.cue_core.specs.State.{ShowState, is_state}
use Rattle.cue_core.proofs.lists.ConditionLemmas.{both}
use Rattle.cue_records.specs.Batch.{is_batch, batch_text}
use Rattle.cue_records.specs.State.{state_text}
use Rattle.cue_records.proofs.LongestLemmas.{state_short}
use Rattle.cue_records.proofs.StateLemmas.{written}
use Rattle.cue_keeper.specs.declared.committing.TheConstants.{MAX_RECORDS}
use Rattle.cue_keeper.specs.Due.{lacks_room, has_room_beside}
use Rattle.cue_keeper.specs.Groups.{with_events, records_of, is_record, are_records}
use Rattle.cue_keeper.specs.Laws.{RoomBesideIsRoom, ANewAreaHasRoom}
use Rattle.cue_keeper.proofs.GroupLemmas.{as_many, records_append}

-- ---- several together

-- neither too many nor too long
no_lack : (most limit many long : ℕ) → many ≤ most → long ≤ limit → (nat_lt most many || nat_lt limit long) ≡ false
no_lack most limit many long few short =
    let a : nat_lt most many ≡ false = Prim.grind (arith, nat_tests, few) in
    let b : nat_lt limit long ≡ false = Prim.grind (arith, nat_tests, short) in
    rw (a, b) refl

-- neither are these records
lacks_none : (count end : ℕ) (payloads : List (List ℕ)) → count + length payloads ≤ MAX_RECORDS
    → end + 1 + room_of payloads ≤ MAX_AREA → lacks_room count end payloads ≡ false
lacks_none count end [] few short = refl
lacks_none count end (payload ∷ payloads) few short = no_lack MAX_RECORDS MAX_AREA (count + length (payload ∷ payloads))
    (end + 1 + room_of (payload ∷ payloads)) few short

below : (m n : ℕ) → nat_lt m n ≡ true → m + 1 ≤ n
below m n is = Prim.grind (arith, nat_tests, is)

within : (m n : ℕ) → nat_le m n ≡ true → m ≤ n
within m n is = Prim.grind (arith, nat_tests, is)

-- what room beside one record or more comes to
has_beside : (count end : ℕ) (payloads : List (List ℕ)) → 1 ≤ length payloads
    → IsTrue (has_room_beside count end payloads)
    → (count + length payloads + 1 ≤ MAX_RECORDS)
    × (end + 1 + room_of payloads + FRAME_LEN + MAX_PAYLOAD ≤ MAX_AREA)
has_beside count end [] some room = absurd (omega (arith, some))
has_beside count end (payload ∷ payloads) some room =
    let long : ℕ = end + 1 + room_of (payload ∷ payloads) + FRAME_LEN + MAX_PAYLOAD in
    let many : ℕ = count + length (payload ∷ payloads) in
    let k = both (nat_lt many MAX_RECORDS) (nat_le long MAX_AREA) room in
    (below many MAX_RECORDS k.0, within long MAX_AREA k.1)

-- one batch is one record at most, and no longer than a payload may be
one_at_most : (next : List Event) → length (batch_text next) ≤ MAX_PAYLOAD
    → (length (records_of (next ∷ [])) ≤ 1) × (sum_by length (records_of (next ∷ [])) ≤ MAX_PAYLOAD)
one_at_most [] short = (omega arith, omega arith)
one_at_most (e ∷ es) short = (omega arith, omega (arith, short))

pub room_beside : RoomBesideIsRoom
room_beside count end batches next room short several =
    let records : List (List ℕ) = records_of batches in
    let more : List (List ℕ) = records_of (next ∷ []) in
    let all : records_of (batches ++ next ∷ []) ≡ records ++ more = records_append batches (next ∷ []) in
    let last = one_at_most next short in
    let many = length-append records more in
    let some : 1 ≤ length records =
    omega (arith, several, as_many (batches ++ next ∷ []), ap length all, many, last.0) in
    let k = has_beside count end records some room in
    subst (λ (rs : List (List ℕ)). lacks_room count end rs ≡ false) (sym all)
    (lacks_none count end (records ++ more) (omega (arith, k.0, many, last.0))
    (omega (arith, k.1, many, last.0, last.1, sum_by-append length records more)))

-- ---- a new area

-- no record is longer than a payload may be
each_short : (batches : List (List Event)) → are_records batches ≡ true
    → sum_by length (records_of batches) ≤ MAX_PAYLOAD * length (with_events batches)
each_short [] each = omega arith
each_short ([] ∷ batches) each = each_short batches each
each_short ((e ∷ es) ∷ batches) each =
    let text : List ℕ = batch_text (e ∷ es) in
    let k = both (is_record (e ∷ es)) (are_records batches) each in
    let l = both (is_batch (e ∷ es)) (nat_le (length text) MAX_PAYLOAD) k.0 in
    omega (
      arith,
      sum_by-cons length text (records_of batches),
      within (length text) MAX_PAYLOAD l.1,
      each_short batches k.1,
    )

-- so the one record of these batches fits beside the longest state
pub fits_group : (s : ShowState) (batches : List (List Event)) → IsTrue (is_state s) → are_records batches ≡ true
    → length (with_events batches) ≡ 1
    → HEAD_LEN + 1 + length (state_text s) + room_of (records_of batches) ≤ MAX_AREA
fits_group s batches rules each one =
    omega (arith, state_short (state_text s) s rules (written s), each_short batches each, as_many batches, one)

pub new_area : ANewAreaHasRoom
new_area s batch rules short over = omega (arith, state_short (state_text s) s rules (written s), short, over)
