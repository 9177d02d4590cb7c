-- Reading fields one after the other, as a loop does.
use Rattle.std.proofs.Common.{◌≡◌, ℕ, suc, ◌-◌, ◌+◌, ◌≤◌, ◌<◌, List, [], ◌∷◌, ◌++◌, Option, Some, None, refl, sym, ap}
use Rattle.std.proofs.Common.{◌∙◌, append_assoc, arith}
use Rattle.std.proofs.lemmas.List.{append-nil}
use Rattle.cue_records.specs.declared.fault.ReadFault.{ReadFault}
use Rattle.cue_records.specs.declared.fault.ReadFault.TheVariants as fault
use Rattle.cue_records.specs.Reading.{◌>>=◌, Reads, Fails, list_at}

-- what was read before, and what is still read
abbrev pub with_front : {A : Type 0} → List A → Option (List A × List ℕ) → Option (List A × List ℕ)
with_front front read = read >>= λ x. Some (front ++ x.0, x.1)

pub regroup : {A : Type 0} (front : List A) (x : A) (read : Option (List A × List ℕ))
    → with_front front (read >>= λ xs. Some (x ∷ xs.0, xs.1)) ≡ with_front (front ++ x ∷ []) read
regroup front x (Some xs) = ap (λ ys. Some (ys, xs.1)) (simp append_assoc)
regroup front x None = refl

pub goes_on : {A : Type 0} (read : Reads A) (front : List A) (count i : ℕ) (bytes : List ℕ) (x : A) (after : List ℕ)
    (total : Option (List A × List ℕ)) → i < count → read bytes ≡ Some (x, after)
    → with_front front (list_at read (count - i) bytes) ≡ total
    → with_front (front ++ x ∷ []) (list_at read (count - (i + 1)) after) ≡ total
unfolding list_at
goes_on read front count i bytes x after total lt h so_far =
    let k : count - i ≡ suc (count - (i + 1)) = omega arith in
    let one : with_front front (list_at read (count - i) bytes) ≡ with_front (front ++ x ∷ [])
    (list_at read (count - (i + 1)) after) = rw (k, h) (regroup front x (list_at read (count - (i + 1)) after)) in
    sym one ∙ so_far

pub ends : {A : Type 0} (read : Reads A) (e : ReadFault) (front : List A) (count i : ℕ) (bytes : List ℕ)
    (total : Option (List A × List ℕ)) → i < count → Fails e (read bytes)
    → with_front front (list_at read (count - i) bytes) ≡ total → Fails e total
unfolding list_at
ends read fault.Memory front count i bytes total lt h so_far = tt
ends read fault.Malformed front count i bytes total lt h so_far =
    let k : count - i ≡ suc (count - (i + 1)) = omega arith in
    let one : with_front front (list_at read (count - i) bytes) ≡ None = rw (k, h) refl in
    sym so_far ∙ one

pub is_done : {A : Type 0} (read : Reads A) (front : List A) (count i : ℕ) (bytes : List ℕ)
    (total : Option (List A × List ℕ)) → count ≤ i → with_front front (list_at read (count - i) bytes) ≡ total
    → total ≡ Some (front, bytes)
unfolding list_at
is_done read front count i bytes total le so_far =
    let k : count - i ≡ 0 = omega arith in
    let one : with_front front (list_at read (count - i) bytes) ≡ Some (front, bytes) =
    rw k (ap (λ xs. Some (xs, bytes)) (append-nil front)) in
    sym so_far ∙ one
