-- Reading the answers of the parts one after the other, as a loop does.
use Rattle.std.proofs.Common.{◌≡◌, ℕ, suc, ◌+◌, ◌≤◌, ◌<◌, List, [], ◌∷◌, ◌++◌, length, get_or, drop, add-one, Option}
use Rattle.std.proofs.Common.{Some, None, refl, sym, ap, ◌∙◌}
use Rattle.std.proofs.Math.Seq.{drop-cons}
use Rattle.std.proofs.lemmas.List.{append-nil, drop_all}
use Rattle.cue_show.specs.declared.part.Part.{Part}
use Rattle.cue_exchange.specs.declared.attempt.Answer.{Answer}
use Rattle.cue_exchange.specs.declared.attempt.DeviceAnswer.{DeviceAnswer}
use Rattle.cue_records.specs.declared.fault.ReadFault.{ReadFault}
use Rattle.cue_records.specs.declared.fault.ReadFault.TheVariants as fault
use Rattle.cue_records.specs.Reading.{◌>>=◌, Fails}
use Rattle.cue_records.specs.StateReading.{one_answer_at, answers_at}
use Rattle.cue_records.proofs.CountedLemmas.{with_front, regroup}

-- the answers of the parts from one on
answers_from : (parts : List Part) (i : ℕ) (p : Part) (bytes : List ℕ) → i < length parts → p ≡ get_or parts i p
    → answers_at (drop i parts) bytes ≡ (one_answer_at bytes >>= λ a. answers_at (drop (i + 1) parts) a.1 >>= λ xs.
    Some (record { device = p.device; optional = p.optional; answer = a.0 } ∷ xs.0, xs.1))
unfolding answers_at
answers_from parts i p bytes lt is =
    let e : drop i parts ≡ p ∷ drop (i + 1) parts =
    rw (add-one, drop-cons parts i p) (ap (λ q. q ∷ drop (suc i) parts) (sym is)) in
    rw e refl

pub answers_go_on : (front : List DeviceAnswer) (parts : List Part) (i : ℕ) (p : Part) (bytes : List ℕ) (a : Answer)
    (after : List ℕ) (total : Option (List DeviceAnswer × List ℕ)) → i < length parts → p ≡ get_or parts i p
    → one_answer_at bytes ≡ Some (a, after)
    → with_front front (answers_at (drop i parts) bytes) ≡ total
    → with_front (front ++ record { device = p.device; optional = p.optional; answer = a } ∷ [])
    (answers_at (drop (i + 1) parts) after) ≡ total
answers_go_on front parts i p bytes a after total lt is h so_far =
    let one : with_front front (answers_at (drop i parts) bytes) ≡ with_front
    (front ++ record { device = p.device; optional = p.optional; answer = a } ∷ [])
    (answers_at (drop (i + 1) parts) after) =
    ap (with_front front) (answers_from parts i p bytes lt is)
    ∙ rw h (regroup front (record { device = p.device; optional = p.optional; answer = a })
    (answers_at (drop (i + 1) parts) after)) in
    sym one ∙ so_far

pub answers_end : (e : ReadFault) (front : List DeviceAnswer) (parts : List Part) (i : ℕ) (p : Part) (bytes : List ℕ)
    (total : Option (List DeviceAnswer × List ℕ)) → i < length parts → p ≡ get_or parts i p
    → Fails e (one_answer_at bytes)
    → with_front front (answers_at (drop i parts) bytes) ≡ total → Fails e total
answers_end fault.Memory front parts i p bytes total lt is h so_far = tt
answers_end fault.Malformed front parts i p bytes total lt is h so_far =
    let one : with_front front (answers_at (drop i parts) bytes) ≡ None =
    ap (with_front front) (answers_from parts i p bytes lt is) ∙ rw h refl in
    sym so_far ∙ one

pub answers_done : (front : List DeviceAnswer) (parts : List Part) (i : ℕ) (bytes : List ℕ)
    (total : Option (List DeviceAnswer × List ℕ)) → length parts ≤ i
    → with_front front (answers_at (drop i parts) bytes) ≡ total → total ≡ Some (front, bytes)
unfolding answers_at
answers_done front parts i bytes total le so_far =
    let k : drop i parts ≡ [] = drop_all i parts le in
    let one : with_front front (answers_at (drop i parts) bytes) ≡ Some (front, bytes) =
    rw k (ap (λ xs. Some (xs, bytes)) (append-nil front)) in
    sym so_far ∙ one
