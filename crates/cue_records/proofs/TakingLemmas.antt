-- What is read is spelled so and fits; what is spelled so and fits is read again, whatever follows. Each reader of
-- readers keeps this.
use Rattle.std.proofs.Common.{◌≡◌, ℕ, suc, zero, ◌<◌, ◌≤◌, Bool, true, false, cond, ◌&&◌, List, [], ◌∷◌, ◌++◌, length}
use Rattle.std.proofs.Common.{get_or, Option, Some, None, IsTrue, nat_le, refl, sym, ap, subst, ◌∙◌, append_assoc}
use Rattle.std.proofs.Common.{arith}
use Rattle.std.specs.List.{flat_map, list_all}
use Rattle.std.proofs.lemmas.Bool.{le-leb, leb-true}
use Rattle.std.proofs.lemmas.List.Folds.{list_all-append}
use Rattle.cue_show.specs.Bytes.{are_bytes}
use Rattle.cue_core.proofs.lists.ConditionLemmas.{both, join}
use Rattle.cue_records.specs.Reading.{◌>>=◌, Reads, where_it, where_at, made_at, as_at, both_at, list_at, counted_at}

-- what was taken from the front, and that it fits
abbrev pub Takes : {A : Type 0} → (A → List ℕ) → (A → Bool) → List ℕ → A × List ℕ → Type 0
Takes text fits bytes x = (bytes ≡ text x.0 ++ x.1) × IsTrue (fits x.0)

pub record IsField {A : Type 0} (read : Reads A) (text : A → List ℕ) (fits : A → Bool) : Type 0 where
  pub takes : (bytes : List ℕ) (x : A × List ℕ) → IsTrue (are_bytes bytes) → read bytes ≡ Some x
      → Takes text fits bytes x
  pub again : (x : A) (rest : List ℕ) → IsTrue (fits x) → read (text x ++ rest) ≡ Some (x, rest)

-- ---- steps

pub bind_some : {A B : Type 0} (o : Option A) (f : A → Option B) (y : B) → (o >>= f) ≡ Some y
    → (x : A) × (o ≡ Some x) × (f x ≡ Some y)
bind_some (Some x) f y e = (x, refl, e)
bind_some None f y e = absurd cc

pub where_some : {A : Type 0} (b : Bool) (x y : A) → where_it b x ≡ Some y → (b ≡ true) × (x ≡ y)
where_some true x y e = (refl, cc)
where_some false x y e = absurd cc

pub else_some : {A : Type 0} (b : Bool) (x y : A) → cond b None (Some x) ≡ Some y → (b ≡ false) × (x ≡ y)
else_some true x y e = absurd cc
else_some false x y e = (refl, cc)

pub some_is : {A : Type 0} (x y : A) → Some x ≡ Some y → x ≡ y
some_is x y e = cc

pub bytes_apart : (front rest : List ℕ) → IsTrue (are_bytes (front ++ rest)) → IsTrue (are_bytes front)
    × IsTrue (are_bytes rest)
bytes_apart front rest h = both (are_bytes front) (are_bytes rest) (sym (list_all-append (λ b. nat_le b 255) front rest)
    ∙ h)

-- what stands behind a field
pub bytes_behind : (bytes front rest : List ℕ) → bytes ≡ front ++ rest → IsTrue (are_bytes bytes)
    → IsTrue (are_bytes rest)
bytes_behind bytes front rest e h = (bytes_apart front rest (subst (λ bs. IsTrue (are_bytes bs)) e h)).1

pub byte_below : (bytes : List ℕ) → IsTrue (are_bytes bytes) → (i : ℕ) → get_or bytes i 0 < 256
byte_below [] h i = omega arith
byte_below (b ∷ bytes) h zero = let k : b ≤ 255 = leb-true b 255 (both (nat_le b 255) (are_bytes bytes) h).0 in
    omega arith
byte_below (b ∷ bytes) h (suc i) = byte_below bytes (both (nat_le b 255) (are_bytes bytes) h).1 i

pub bytes_from : (bytes : List ℕ) → ((i : ℕ) → get_or bytes i 0 < 256) → IsTrue (are_bytes bytes)
bytes_from [] h = refl
bytes_from (b ∷ bytes) h = join (nat_le b 255) (are_bytes bytes) (le-leb b 255 (let k : b < 256 = h 0 in omega arith))
    (bytes_from bytes (λ i. h (suc i)))

-- ---- readers of readers

module _ {A : Type 0} {read : Reads A} {text : A → List ℕ} {fits : A → Bool} where
  -- the same fits, said in other words
  pub refit : (other : A → Bool) → IsField read text fits → ((x : A) → IsTrue (fits x) → IsTrue (other x))
      → ((x : A) → IsTrue (other x) → IsTrue (fits x)) → IsField read text other
  refit other f into back = record {
    takes = λ bytes x b e. let t = f.takes bytes x b e in (t.0, into x.0 t.1);
    again = λ x rest h. f.again x rest (back x h);
  }

  -- the same spelling, said in other words
  pub respell : (other : A → List ℕ) → IsField read text fits → ((x : A) → text x ≡ other x) → IsField read other fits
  respell other f same = record {
    takes = λ bytes x b e. let t = f.takes bytes x b e in (t.0 ∙ ap (λ bs. bs ++ x.1) (same x.0), t.1);
    again = λ x rest h. rw (← same x) (f.again x rest h);
  }

  -- what passes a test
  pub where_field : (test : A → Bool) → IsField read text fits
      → IsField (where_at test read) text (λ x. test x && fits x)
  where_field test f = record {
    takes = λ bytes x b e.
        let s = bind_some (read bytes) (λ y. where_it (test y.0) y) x e in
        let w = where_some (test s.0.0) s.0 x s.2 in
        let t = f.takes bytes s.0 b s.1 in
        subst (Takes text (λ y. test y && fits y) bytes) w.1 (t.0, join (test s.0.0) (fits s.0.0) w.0 t.1);
    again = λ x rest h. let p = both (test x) (fits x) h in let t : test x ≡ true = p.0 in
        rw (f.again x rest p.1, t) refl;
  }

  -- what is seen as something else
  pub as_field : {B : Type 0} (make : A → B) (back : B → A) → IsField read text fits → ((x : A) → back (make x) ≡ x)
      → ((y : B) → make (back y) ≡ y) → IsField (as_at make read) (λ y. text (back y)) (λ y. fits (back y))
  as_field make back f one other = record {
    takes = λ bytes y b e.
        let s = bind_some (read bytes) (λ x. Some (make x.0, x.1)) y e in
        let t = f.takes bytes s.0 b s.1 in
        subst (Takes (λ y. text (back y)) (λ y. fits (back y)) bytes) (some_is (make s.0.0, s.0.1) y s.2)
        (rw (one s.0.0) t);
    again = λ y rest h. rw (f.again (back y) rest h, other y) refl;
  }

  -- what has a number
  pub made_field : {B : Type 0} (make : A → Option B) (number : B → A) (good : B → Bool) → IsField read text fits
      → ((x : A) (y : B) → IsTrue (fits x) → make x ≡ Some y → (number y ≡ x) × IsTrue (good y))
      → ((y : B) → IsTrue (good y) → make (number y) ≡ Some y) → ((y : B) → IsTrue (good y) → IsTrue (fits (number y)))
      → IsField (made_at make read) (λ y. text (number y)) good
  made_field make number good f one other within = record {
    takes = λ bytes y b e.
        let s = bind_some (read bytes) (λ x. make x.0 >>= λ z. Some (z, x.1)) y e in
        let m = bind_some (make s.0.0) (λ z. Some (z, s.0.1)) y s.2 in
        let t = f.takes bytes s.0 b s.1 in
        let n = one s.0.0 m.0 t.1 m.1 in
        subst (Takes (λ z. text (number z)) good bytes) (some_is (m.0, s.0.1) y m.2) (rw n.0 t.0, n.1);
    again = λ y rest h. rw (f.again (number y) rest (within y h), other y h) refl;
  }

  pub list_takes : IsField read text fits → (n : ℕ) (bytes : List ℕ) (x : List A × List ℕ) → IsTrue (are_bytes bytes)
      → list_at read n bytes ≡ Some x → Takes (flat_map text) (list_all fits) bytes x × (length x.0 ≡ n)
  unfolding list_at
  list_takes f zero bytes x b e = subst (λ y. Takes (flat_map text) (list_all fits) bytes y × (length y.0 ≡ 0))
      (some_is ([], bytes) x e) ((refl, refl), refl)
  list_takes f (suc n) bytes x b e =
      let s = bind_some (read bytes) (λ y. list_at read n y.1 >>= λ ys. Some (y.0 ∷ ys.0, ys.1)) x e in
      let m = bind_some (list_at read n s.0.1) (λ ys. Some (s.0.0 ∷ ys.0, ys.1)) x s.2 in
      let t = f.takes bytes s.0 b s.1 in
      let u = list_takes f n s.0.1 m.0 (bytes_behind bytes (text s.0.0) s.0.1 t.0 b) m.1 in
      let parts : bytes ≡ (text s.0.0 ++ flat_map text m.0.0) ++ m.0.1 = t.0 ∙ ap (λ bs. text s.0.0 ++ bs) u.0.0
      ∙ sym (append_assoc (text s.0.0) (flat_map text m.0.0) m.0.1) in
      subst (λ y. Takes (flat_map text) (list_all fits) bytes y × (length y.0 ≡ suc n))
      (some_is (s.0.0 ∷ m.0.0, m.0.1) x m.2) (
        (parts, join (fits s.0.0) (list_all fits m.0.0) t.1 u.0.1),
        ap suc
            u.1,
      )

  pub list_again : IsField read text fits → (xs : List A) (rest : List ℕ) → IsTrue (list_all fits xs)
      → list_at read (length xs) (flat_map text xs ++ rest) ≡ Some (xs, rest)
  unfolding list_at
  list_again f [] rest h = refl
  list_again f (x ∷ xs) rest h =
      let p = both (fits x) (list_all fits xs) h in
      let regrouped : flat_map text (x ∷ xs) ++ rest ≡ text x ++ (flat_map text xs ++ rest) =
      append_assoc (text x) (flat_map text xs) rest in
      ap (list_at read (suc (length xs))) regrouped
      ∙ rw (f.again x (flat_map text xs ++ rest) p.0, list_again f xs rest p.1) refl

-- what passes a test that is all that fits
pub test_field : {A : Type 0} {read : Reads A} {text : A → List ℕ} {fits : A → Bool} (test : A → Bool)
    → IsField read text fits → ((x : A) → IsTrue (test x) → IsTrue (fits x)) → IsField (where_at test read) text test
test_field {fits = fits} test f within = refit test (where_field test f) (λ x h. (both (test x) (fits x) h).0)
    (λ x h. join (test x) (fits x) h (within x h))

-- one behind the other
pub both_field : {A B : Type 0} {one : Reads A} {one_text : A → List ℕ} {one_fits : A → Bool} {other : Reads B}
    {other_text : B → List ℕ} {other_fits : B → Bool}
    → IsField one one_text one_fits → IsField other other_text other_fits
    → IsField (both_at one other) (λ x. one_text x.0 ++ other_text x.1) (λ x. one_fits x.0 && other_fits x.1)
both_field {one = one} {one_text = one_text} {one_fits = one_fits} {other = other} {other_text = other_text}
    {other_fits = other_fits} f g = record {
      takes = λ bytes x b e.
          let s = bind_some (one bytes) (λ a. other a.1 >>= λ b. Some ((a.0, b.0), b.1)) x e in
          let m = bind_some (other s.0.1) (λ b. Some ((s.0.0, b.0), b.1)) x s.2 in
          let t = f.takes bytes s.0 b s.1 in
          let u = g.takes s.0.1 m.0 (bytes_behind bytes (one_text s.0.0) s.0.1 t.0 b) m.1 in
          let parts : bytes ≡ (one_text s.0.0 ++ other_text m.0.0) ++ m.0.1 = t.0 ∙ ap (λ bs. one_text s.0.0 ++ bs) u.0
          ∙ sym (append_assoc (one_text s.0.0) (other_text m.0.0) m.0.1) in
          subst (Takes (λ y. one_text y.0 ++ other_text y.1) (λ y. one_fits y.0 && other_fits y.1) bytes)
          (some_is ((s.0.0, m.0.0), m.0.1) x m.2) (parts, join (one_fits s.0.0) (other_fits m.0.0) t.1 u.1);
      again = λ x rest h.
          let p = both (one_fits x.0) (other_fits x.1) h in
          let regrouped : (one_text x.0 ++ other_text x.1) ++ rest ≡ one_text x.0 ++ (other_text x.1 ++ rest) =
          append_assoc (one_text x.0) (other_text x.1) rest in
          ap (both_at one other) regrouped ∙ rw (f.again x.0 (other_text x.1 ++ rest) p.0, g.again x.1 rest p.1) refl;
    }

-- a count, and so many
pub counted_field : {A : Type 0} {count : Reads ℕ} {count_text : ℕ → List ℕ} {count_fits : ℕ → Bool} {read : Reads A}
    {text : A → List ℕ} {fits : A → Bool}
    → IsField count count_text count_fits → IsField read text fits
    → IsField (counted_at count read) (λ xs. count_text (length xs) ++ flat_map text xs)
    (λ xs. count_fits (length xs) && list_all fits xs)
counted_field {count = count} {count_text = count_text} {count_fits = count_fits} {read = read} {text = text}
    {fits = fits} f g = record {
      takes = λ bytes x b e.
          let s = bind_some (count bytes) (λ n. list_at read n.0 n.1) x e in
          let t = f.takes bytes s.0 b s.1 in
          let u = list_takes g s.0.0 s.0.1 x (bytes_behind bytes (count_text s.0.0) s.0.1 t.0 b) s.2 in
          let parts : bytes ≡ (count_text s.0.0 ++ flat_map text x.0) ++ x.1 = t.0
          ∙ ap (λ bs. count_text s.0.0 ++ bs) u.0.0
          ∙ sym (append_assoc (count_text s.0.0) (flat_map text x.0) x.1) in
          rw u.1 (parts, join (count_fits s.0.0) (list_all fits x.0) t.1 u.0.1);
      again = λ xs rest h.
          let p = both (count_fits (length xs)) (list_all fits xs) h in
          let regrouped : (count_text (length xs) ++ flat_map text xs) ++ rest ≡ count_text (length xs)
          ++ (flat_map text xs ++ rest) = append_assoc (count_text (length xs)) (flat_map text xs) rest in
          ap (counted_at count read) regrouped
          ∙ rw (f.again (length xs) (flat_map text xs ++ rest) p.0) (list_again g xs rest p.1);
    }
