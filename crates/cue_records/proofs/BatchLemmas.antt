-- Batches: what is read is spelled so and fits, and is read again.
use Rattle.std.proofs.Common.{◌≡◌, ℕ, ◌≤◌, Bool, true, false, ◌&&◌, ◌==◌, List, [], ◌++◌, length, Some, Result, Ok, Err}
use Rattle.std.proofs.Common.{IsTrue, nat_le, refl, sym, ap, subst, ◌∙◌, arith}
use Rattle.std.specs.Prelude.{IfOk, IsErrOf}
use Rattle.std.specs.List.{list_all}
use Rattle.std.proofs.lemmas.Bool.{le-leb, leb-true, eqb-true}
use Rattle.std.proofs.lemmas.List.{append-nil, nil_from_length}
use Rattle.cue_show.specs.Bytes.{are_bytes}
use Rattle.cue_core.specs.declared.event.Event.{Event}
use Rattle.cue_core.proofs.lists.ConditionLemmas.{both}
use Rattle.cue_records.specs.declared.limits.TheConstants.{MAX_EVENTS}
use Rattle.cue_records.specs.declared.fault.ReadFault.{ReadFault}
use Rattle.cue_records.specs.declared.fault.ReadFault.TheVariants.{Malformed, Memory}
use Rattle.cue_records.specs.Fields.{short_text}
use Rattle.cue_records.specs.Batch.{is_event, batch_text, is_batch, IsNoBatch}
use Rattle.cue_records.specs.Laws.{BatchesAreReadBack, BatchTextsDiffer}
use Rattle.cue_records.specs.Reading.{Gives, where_it, counted_at}
use Rattle.cue_records.specs.BatchReading.{event_at, event_count_at, batch_of}
use Rattle.cue_records.proofs.TakingLemmas.{IsField, bind_some, where_some, some_is, refit, test_field, counted_field}
use Rattle.cue_records.proofs.NumberLemmas.{field16}
use Rattle.cue_records.proofs.EventLemmas.{event_field}

abbrev is_event_count : ℕ → Bool
is_event_count n = nat_le 1 n && nat_le n MAX_EVENTS

count_short : (n : ℕ) → IsTrue (is_event_count n) → IsTrue (nat_le n 65535)
count_short n h = let k : n ≤ MAX_EVENTS = leb-true n MAX_EVENTS (both (nat_le 1 n) (nat_le n MAX_EVENTS) h).1 in
    le-leb n 65535 (omega arith)

event_count_field : IsField event_count_at short_text is_event_count
unfolding event_count_at
event_count_field = test_field is_event_count field16 count_short

grouped : (a b c : Bool) → IsTrue ((a && b) && c) → IsTrue (a && (b && c))
grouped true b c h = h
grouped false b c h = absurd cc

regrouped : (a b c : Bool) → IsTrue (a && (b && c)) → IsTrue ((a && b) && c)
regrouped true b c h = h
regrouped false b c h = absurd cc

batch_field : IsField (counted_at event_count_at event_at) batch_text is_batch
batch_field =
    refit is_batch (counted_field event_count_field event_field)
    (λ es h. grouped (nat_le 1 (length es)) (nat_le (length es) MAX_EVENTS) (list_all is_event es) h)
    (λ es h. regrouped (nat_le 1 (length es)) (nat_le (length es) MAX_EVENTS) (list_all is_event es) h)

batch_takes : (bytes : List ℕ) (es : List Event) → IsTrue (are_bytes bytes) → batch_of bytes ≡ Some es
    → IsTrue (is_batch es) × (bytes ≡ batch_text es)
unfolding batch_of
batch_takes bytes es b e =
    let s = bind_some (counted_at event_count_at event_at bytes) (λ x. where_it (length x.1 == 0) x.0) es e in
    let w = where_some (length s.0.1 == 0) s.0.0 es s.2 in
    let nothing : s.0.1 ≡ [] = nil_from_length s.0.1 (eqb-true (length s.0.1) 0 w.0) in
    let t = batch_field.takes bytes s.0 b s.1 in
    let whole : bytes ≡ batch_text s.0.0 = t.0 ∙ ap (λ rest. batch_text s.0.0 ++ rest) nothing
    ∙ append-nil (batch_text s.0.0) in
    subst (λ xs. IsTrue (is_batch xs) × (bytes ≡ batch_text xs)) w.1 (t.1, whole)

batch_again : (es : List Event) → IsTrue (is_batch es) → batch_of (batch_text es) ≡ Some es
unfolding batch_of
batch_again es h =
    let read : counted_at event_count_at event_at (batch_text es) ≡ Some (es, []) =
    ap (counted_at event_count_at event_at) (sym (append-nil (batch_text es))) ∙ batch_field.again es [] h in
    rw read refl

pub is_found : (bytes : List ℕ) (r : Result (List Event) ReadFault) → IsTrue (are_bytes bytes)
    → Gives (λ batch. batch) r (batch_of bytes) → IfOk r (λ batch. IsTrue (is_batch batch) × (bytes ≡ batch_text batch))
is_found bytes (Ok es) b e = batch_takes bytes es b e
is_found bytes (Err fault) b e = tt

pub is_only : (bytes : List ℕ) (r : Result (List Event) ReadFault) → Gives (λ batch. batch) r (batch_of bytes)
    → IsErrOf r Malformed → IsNoBatch bytes
is_only bytes (Ok es) e malformed = absurd cc
is_only bytes (Err Memory) e malformed = absurd cc
is_only bytes (Err Malformed) e malformed = λ es h same. let read : batch_of bytes ≡ Some es = ap batch_of same
    ∙ batch_again es h in absurd cc

-- ---- the laws

pub read_back : BatchesAreReadBack
read_back es h = batch_again es h

pub texts_differ : BatchTextsDiffer
texts_differ one other h k same = some_is one other (sym (batch_again one h) ∙ ap batch_of same ∙ batch_again other k)
