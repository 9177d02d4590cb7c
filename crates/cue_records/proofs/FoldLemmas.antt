-- What is read and added one after the other is spelled so, and what is spelled so is read again.
use Rattle.std.proofs.Common.{◌≡◌, ℕ, suc, zero, Bool, true, ◌&&◌, List, [], ◌∷◌, ◌++◌, length, Some, IsTrue, refl, sym}
use Rattle.std.proofs.Common.{ap, subst, ◌∙◌, append_assoc}
use Rattle.std.specs.List.{flat_map, list_all}
use Rattle.std.proofs.lemmas.List.{append-nil}
use Rattle.cue_show.specs.Bytes.{are_bytes}
use Rattle.cue_core.proofs.lists.ConditionLemmas.{join}
use Rattle.cue_records.specs.Reading.{◌>>=◌, Reads, where_it}
use Rattle.cue_records.specs.StateReading.{added_at, fold_at}
use Rattle.cue_records.proofs.TakingLemmas.{IsField, bind_some, where_some, some_is, bytes_behind}

-- What is made of a list is made one by one: at is what is made of a list, and whole tells which lists may be made.
pub record IsMade {S A : Type 0} (can : S → A → Bool) (add : S → A → S) (at : List A → S) (fits : A
    → Bool) (whole : List A → Bool) : Type 0 where
  pub grows : (xs : List A) (x : A) → IsTrue (can (at xs) x) → add (at xs) x ≡ at (xs ++ x ∷ [])
  pub allows : (ys zs : List A) (x : A) → IsTrue (whole (ys ++ x ∷ zs)) → IsTrue (can (at ys) x)
  pub fitting : (ys zs : List A) (x : A) → IsTrue (whole (ys ++ x ∷ zs)) → IsTrue (fits x)

-- what was read and added
abbrev pub Adds : {S A : Type 0} → (A → List ℕ) → (A → Bool) → (List A → S) → ℕ → List A → List ℕ → S × List ℕ → Type 0
Adds {A = A} text fits at n front bytes y = (xs : List A) × (bytes ≡ flat_map text xs ++ y.1) × (length xs ≡ n)
    × (y.0 ≡ at (front ++ xs)) × IsTrue (list_all fits xs)

module _ {S A : Type 0} {read : Reads A} {text : A → List ℕ} {fits : A → Bool} {can : S → A → Bool} {add : S → A
    → S} {at : List A → S} {whole : List A → Bool} where
  pub fold_takes : IsField read text fits → IsMade can add at fits whole
      → (n : ℕ) (front : List A) (bytes : List ℕ) (y : S × List ℕ) → IsTrue (are_bytes bytes)
      → fold_at (added_at can add read) n (at front) bytes ≡ Some y → Adds text fits at n front bytes y
  unfolding fold_at
  fold_takes f made zero front bytes y b e =
      let same : (at front, bytes) ≡ y = some_is (at front, bytes) y e in
      ([], ap (λ z. z.1) same, refl, sym (ap (λ z. z.0) same) ∙ ap at (sym (append-nil front)), refl)
  fold_takes f made (suc n) front bytes y b e =
      let s = bind_some (added_at can add read (at front) bytes) (λ x. fold_at (added_at can add read) n x.0 x.1) y e in
      let m = bind_some (read bytes) (λ x. where_it (can (at front) x.0) (add (at front) x.0, x.1)) s.0 s.1 in
      let w = where_some (can (at front) m.0.0) (add (at front) m.0.0, m.0.1) s.0 m.2 in
      let t = f.takes bytes m.0 b m.1 in
      let x = m.0.0 in
      let added : fold_at (added_at can add read) n (add (at front) x) m.0.1 ≡ Some y =
      subst (λ z. fold_at (added_at can add read) n z.0 z.1 ≡ Some y) (sym w.1) s.2 in
      let next : fold_at (added_at can add read) n (at (front ++ x ∷ [])) m.0.1 ≡ Some y =
      subst (λ z. fold_at (added_at can add read) n z m.0.1 ≡ Some y) (made.grows front x w.0) added in
      let u = fold_takes f made n (front ++ x ∷ []) m.0.1 y (bytes_behind bytes (text x) m.0.1 t.0 b) next in
      let parts : bytes ≡ (text x ++ flat_map text u.0) ++ y.1 = t.0 ∙ ap (λ bs. text x ++ bs) u.1
      ∙ sym (append_assoc (text x) (flat_map text u.0) y.1) in (
        x ∷ u.0,
        parts,
        ap suc u.2,
        u.3 ∙ ap at (append_assoc front (x ∷ []) u.0),
        join (fits x) (list_all fits u.0) t.1
            u.4,
      )

  pub fold_again : IsField read text fits → IsMade can add at fits whole → (xs front : List A) (rest : List ℕ)
      → IsTrue (whole (front ++ xs))
      → fold_at (added_at can add read) (length xs) (at front) (flat_map text xs ++ rest) ≡ Some
      (at (front ++ xs), rest)
  unfolding fold_at
  fold_again f made [] front rest h = ap (λ ys. Some (at ys, rest)) (sym (append-nil front))
  fold_again f made (x ∷ xs) front rest h =
      let more = flat_map text xs ++ rest in
      let may : can (at front) x ≡ true = made.allows front xs x h in
      let regrouped : flat_map text (x ∷ xs) ++ rest ≡ text x ++ more = append_assoc (text x) (flat_map text xs) rest in
      let step : added_at can add read (at front) (text x ++ more) ≡ Some (at (front ++ x ∷ []), more) =
      rw (f.again x more (made.fitting front xs x h), may) (ap (λ s. Some (s, more)) (made.grows front x may)) in
      let tail : IsTrue (whole ((front ++ x ∷ []) ++ xs)) =
      subst (λ ys. IsTrue (whole ys)) (sym (append_assoc front (x ∷ []) xs)) h in
      ap (fold_at (added_at can add read) (suc (length xs)) (at front)) regrouped
      ∙ rw step (fold_again f made xs (front ++ x ∷ []) rest tail
      ∙ ap (λ ys. Some (at ys, rest)) (append_assoc front (x ∷ []) xs))

-- a count, and so many
module _ {S A : Type 0} {count : Reads ℕ} {count_text : ℕ → List ℕ} {count_fits : ℕ → Bool} {read : Reads A} {text : A
    → List ℕ} {fits : A → Bool} {can : S → A → Bool} {add : S → A → S} {at : List A → S} {whole : List A → Bool} where
  pub counted_takes : IsField count count_text count_fits → IsField read text fits → IsMade can add at fits whole
      → (bytes : List ℕ) (y : S × List ℕ) → IsTrue (are_bytes bytes)
      → (count bytes >>= λ n. fold_at (added_at can add read) n.0 (at []) n.1) ≡ Some y
      → (xs : List A) × (bytes ≡ (count_text (length xs) ++ flat_map text xs) ++ y.1) × (y.0 ≡ at xs)
      × IsTrue (count_fits (length xs) && list_all fits xs)
  counted_takes c f made bytes y b e =
      let s = bind_some (count bytes) (λ n. fold_at (added_at can add read) n.0 (at []) n.1) y e in
      let t = c.takes bytes s.0 b s.1 in
      let u = fold_takes f made s.0.0 [] s.0.1 y (bytes_behind bytes (count_text s.0.0) s.0.1 t.0 b) s.2 in
      let parts : bytes ≡ (count_text s.0.0 ++ flat_map text u.0) ++ y.1 = t.0 ∙ ap (λ bs. count_text s.0.0 ++ bs) u.1
      ∙ sym (append_assoc (count_text s.0.0) (flat_map text u.0) y.1) in (
        u.0,
        parts ∙ ap (λ n. (count_text n ++ flat_map text u.0) ++ y.1) (sym u.2),
        u.3,
        join (count_fits (length u.0))
            (list_all fits u.0) (subst (λ n. IsTrue (count_fits n)) (sym u.2) t.1) u.4,
      )

  pub counted_again : IsField count count_text count_fits → IsField read text fits → IsMade can add at fits whole
      → (xs : List A) (rest : List ℕ) → IsTrue (count_fits (length xs)) → IsTrue (whole xs)
      → (count ((count_text (length xs) ++ flat_map text xs) ++ rest) >>= λ n. fold_at (added_at can add read) n.0
      (at []) n.1) ≡ Some (at xs, rest)
  counted_again c f made xs rest h k =
      let regrouped : (count_text (length xs) ++ flat_map text xs) ++ rest ≡ count_text (length xs)
      ++ (flat_map text xs ++ rest) = append_assoc (count_text (length xs)) (flat_map text xs) rest in
      ap (λ bs. count bs >>= λ n. fold_at (added_at can add read) n.0 (at []) n.1) regrouped
      ∙ rw (c.again (length xs) (flat_map text xs ++ rest) h) (fold_again f made xs [] rest k)
