-- Each image is what some crash makes of a disk.
use Rattle.std.proofs.Common.{◌≡◌, ℕ, zero, suc, ◌+◌, ◌-◌, ◌<◌, ◌≤◌, nat_le, true, false, cond, List, [], ◌∷◌, ◌++◌}
use Rattle.std.proofs.Common.{length, get_or, refl, sym, ◌∙◌, ap, subst, ⊎_elim, arith}
use Rattle.std.proofs.lemmas.List.{length_push, get_or_append_left, get_or_push, get_or_past}
use Rattle.std.proofs.lemmas.Bool.{cases_lt, cases_eq, cases_Bool, cond-true, cond-false, or_parts, leb-false}
use Rattle.cue_disk.specs.Disk.{Contents, IsImage}
use Rattle.cue_disk.specs.Crash.{may_change, changeable_before, IsCrashed, IsReached, ReachesAllImages}

module _ (now : Contents) (image : List ℕ) where
  -- the bytes of the image in front of a place that a crash may change
  abbrev junk_before : ℕ → List ℕ
  junk_before zero = []
  junk_before (suc i) = cond (may_change now i) (junk_before i ++ get_or image i 0 ∷ []) (junk_before i)

  length-junk_before : (n : ℕ) → length (junk_before n) ≡ changeable_before now n
  length-junk_before zero = refl
  length-junk_before (suc n) =
      ⊎_elim
      (λ (may : may_change now n ≡ true).
      ap length (cond-true (may_change now n) (junk_before n ++ get_or image n 0 ∷ []) (junk_before n) may)
      ∙ length_push (junk_before n) (get_or image n 0)
      ∙ ap (λ (k : ℕ). k + 1) (length-junk_before n)
      ∙ sym (ap (λ (k : ℕ). changeable_before now n + k) (cond-true (may_change now n) 1 0 may)))
      (λ (fixed : may_change now n ≡ false).
      ap length (cond-false (may_change now n) (junk_before n ++ get_or image n 0 ∷ []) (junk_before n) fixed)
      ∙ length-junk_before n
      ∙ sym (ap (λ (k : ℕ). changeable_before now n + k) (cond-false (may_change now n) 1 0 fixed) ∙ omega arith))
      (cases_Bool (may_change now n))

  -- no more of them than places
  changeable_few : (n : ℕ) → changeable_before now n ≤ n
  changeable_few zero = omega arith
  changeable_few (suc n) =
      ⊎_elim
      (λ (may : may_change now n ≡ true). omega (arith, changeable_few n, cond-true {A = ℕ} (may_change now n) 1 0 may))
      (λ (fixed : may_change now n ≡ false).
      omega (arith, changeable_few n, cond-false {A = ℕ} (may_change now n) 1 0 fixed))
      (cases_Bool (may_change now n))

  -- more of them, the further on the place lies
  before_less : (n i : ℕ) → i < n → may_change now i ≡ true → changeable_before now i < changeable_before now n
  before_less zero i within may = absurd (omega arith)
  before_less (suc n) i within may =
      ⊎_elim
      (λ (less : i < n). let there = before_less n i less may in omega arith)
      (λ (high : n ≤ i).
      let same : i ≡ n = omega arith in
      let more : changeable_before now n + cond (may_change now n) 1 0 ≡ changeable_before now n + 1 =
      ap (λ (k : ℕ). changeable_before now n + k) (cond-true (may_change now n) 1 0 (ap (may_change now) (sym same)
      ∙ may)) in
      omega (arith, more, ap (changeable_before now) same))
      (cases_lt i n)

  -- each at its place
  junk_at : (n i : ℕ) (d : ℕ) → i < n → may_change now i ≡ true
      → get_or (junk_before n) (changeable_before now i) d ≡ get_or image i 0
  junk_at zero i d within may = absurd (omega arith)
  junk_at (suc n) i d within may =
      ⊎_elim
      (λ (less : i < n).
      let there = junk_at n i d less may in
      let short : changeable_before now i < length (junk_before n) =
      omega (arith, before_less n i less may, length-junk_before n) in
      ⊎_elim
      (λ (may_n : may_change now n ≡ true).
      ap (λ (l : List ℕ). get_or l (changeable_before now i) d)
      (cond-true (may_change now n) (junk_before n ++ get_or image n 0 ∷ []) (junk_before n) may_n)
      ∙ get_or_append_left (junk_before n) (get_or image n 0 ∷ []) d (changeable_before now i) short
      ∙ there)
      (λ (fixed : may_change now n ≡ false).
      ap (λ (l : List ℕ). get_or l (changeable_before now i) d)
      (cond-false (may_change now n) (junk_before n ++ get_or image n 0 ∷ []) (junk_before n) fixed)
      ∙ there)
      (cases_Bool (may_change now n)))
      (λ (high : n ≤ i).
      let same : n ≡ i = omega arith in
      let may_n : may_change now n ≡ true = ap (may_change now) same ∙ may in
      ap (λ (l : List ℕ). get_or l (changeable_before now i) d)
      (cond-true (may_change now n) (junk_before n ++ get_or image n 0 ∷ []) (junk_before n) may_n)
      ∙ get_or_push (junk_before n) (get_or image n 0) d (changeable_before now i) (length-junk_before n
      ∙ ap (changeable_before now) same)
      ∙ ap (λ (k : ℕ). get_or image k 0) same)
      (cases_lt i n)

  -- and each a byte where the image has bytes
  junk_bytes : ((i : ℕ) → get_or image i 0 < 256) → (n i : ℕ) → get_or (junk_before n) i 0 < 256
  junk_bytes bytes zero i = omega arith
  junk_bytes bytes (suc n) i =
      ⊎_elim
      (λ (may : may_change now n ≡ true).
      subst (λ (l : List ℕ). get_or l i 0 < 256)
      (sym (cond-true (may_change now n) (junk_before n ++ get_or image n 0 ∷ []) (junk_before n) may))
      (⊎_elim
      (λ (low : i < length (junk_before n)).
      omega (arith, junk_bytes bytes n i, get_or_append_left (junk_before n) (get_or image n 0 ∷ []) 0 i low))
      (λ (high : length (junk_before n) ≤ i).
      ⊎_elim
      (λ (last : i ≡ length (junk_before n)).
      omega (arith, bytes n, get_or_push (junk_before n) (get_or image n 0) 0 i (sym last)))
      (λ (other : i ≡ length (junk_before n) → ⊥).
      omega (
        arith,
        get_or_past (junk_before n ++ get_or image n 0 ∷ []) i 0
            (omega (arith, other, length_push (junk_before n) (get_or image n 0))),
      ))
      (cases_eq i (length (junk_before n))))
      (cases_lt i (length (junk_before n)))))
      (λ (fixed : may_change now n ≡ false).
      subst (λ (l : List ℕ). get_or l i 0 < 256)
      (sym (cond-false (may_change now n) (junk_before n ++ get_or image n 0 ∷ []) (junk_before n) fixed))
      (junk_bytes bytes n i))
      (cases_Bool (may_change now n))

  made : IsImage now image → IsCrashed now (length image - now.synced) (junk_before (length image)) image
  made left = record {
    long = omega (arith, left.no_shorter, left.no_longer);
    each = λ i within.
        ⊎_elim
        (λ (may : may_change now i ≡ true).
        sym (cond-true (may_change now i)
        (get_or (junk_before (length image)) (changeable_before now i) (get_or now.bytes i 0))
        (get_or now.bytes i 0) may
        ∙ junk_at (length image) i (get_or now.bytes i 0) within may))
        (λ (fixed : may_change now i ≡ false).
        let parts = or_parts (now.touched i) (nat_le now.synced i) fixed in
        left.untouched i (leb-false now.synced i parts.1) parts.0
        ∙ sym (cond-false (may_change now i)
        (get_or (junk_before (length image)) (changeable_before now i) (get_or now.bytes i 0))
        (get_or now.bytes i 0) fixed))
        (cases_Bool (may_change now i));
  }

  reached : IsImage now image → IsReached now image
  reached left = record {
    extra = length image - now.synced;
    junk = junk_before (length image);
    crashed = made left;
    within = omega (arith, left.no_shorter, left.no_longer);
    few = omega (arith, length-junk_before (length image), changeable_few (length image));
    bytes = λ bytes. junk_bytes bytes (length image);
  }

pub reaches_all : (now : Contents) → ReachesAllImages now
reaches_all now = λ image left. reached now image left
