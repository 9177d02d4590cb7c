-- Tests over lists and over the entries of a map: what an entry more, or one less, changes.
use Rattle.std.proofs.Common.{◌≡◌, ◌≤◌, ◌⊎◌, inl, inr, Bool, true, false, not, cond, ◌&&◌, ◌||◌, List, [], ◌∷◌, ◌++◌}
use Rattle.std.proofs.Common.{length, Some, is_some, IfSome, refl, sym, ap, ◌∙◌, true≢false, arith}
use Rattle.std.specs.Cmp.{IsEquivalence}
use Rattle.std.specs.List.{list_any, list_all, AllByRecursion, IsDistinct}
use Rattle.std.specs.Map.{lookup, remove_entry, keys_of}
use Rattle.std.proofs.lemmas.Bool.{and_parts, and_from, and_right, or_cases, not-true}
use Rattle.std.proofs.lemmas.List.{map-append}
use Rattle.std.proofs.lemmas.List.Folds.{list_all-append, list_any-append}
use Rattle.std.proofs.lemmas.Map.Made.{is_some-lookup}
use Rattle.indexmap.specs.IndexMap.{insert_entry}
use Rattle.cue_show.specs.Distinct.{are_distinct}
pub use Rattle.cue_show.proofs.TestLemmas.{neither, or_left, or_right}

module _ {X : Type 0} where
  -- what follows from passing one test, of an element that does not pass another
  pub list_all-from : (p none q : X → Bool) → ((x : X) → p x ≡ true → none x ≡ false → q x ≡ true)
      → (xs : List X) → list_all p xs ≡ true → list_any none xs ≡ false → list_all q xs ≡ true
  list_all-from p none q step [] all lacks = refl
  list_all-from p none q step (x ∷ xs) all lacks =
      let here = and_parts (p x) (list_all p xs) all in
      let apart = neither (none x) (list_any none xs) lacks in
      and_from (q x) (list_all q xs) (step x here.0 apart.0) (list_all-from p none q step xs here.1 apart.1)

  -- what follows from passing a test
  pub list_all-weaken : (p q : X → Bool) → ((x : X) → p x ≡ true → q x ≡ true) → (xs : List X) → list_all p xs ≡ true
      → list_all q xs ≡ true
  list_all-weaken p q step [] all = refl
  list_all-weaken p q step (x ∷ xs) all =
      let here = and_parts (p x) (list_all p xs) all in
      and_from (q x) (list_all q xs) (step x here.0) (list_all-weaken p q step xs here.1)

  -- one more at the end
  pub list_all-push : (p : X → Bool) (xs : List X) (x : X) → list_all p xs ≡ true → p x ≡ true
      → list_all p (xs ++ x ∷ []) ≡ true
  list_all-push p xs x all here = list_all-append p xs (x ∷ [])
      ∙ and_from (list_all p xs) (p x && true) all (and_from (p x) true here refl)

  pub list_any-push : (p : X → Bool) (xs : List X) (x : X) → list_any p xs ≡ false → p x ≡ false
      → list_any p (xs ++ x ∷ []) ≡ false
  list_any-push p xs x none here = list_any-append p xs (x ∷ []) ∙ (λ i. none i || (here i || false))

  module _ (same : X → X → Bool) where
    -- an element that is not there yet may go last
    pub are_distinct-push : (xs : List X) (x : X) → are_distinct same xs ≡ true → list_any (same x) xs ≡ false
        → are_distinct same (xs ++ x ∷ []) ≡ true
    are_distinct-push [] x all none = refl
    are_distinct-push (y ∷ ys) x all none =
        let here = and_parts (not (list_any (λ z. same z y) ys)) (are_distinct same ys) all in
        let apart = neither (same x y) (list_any (same x) ys) none in
        and_from (not (list_any (λ z. same z y) (ys ++ x ∷ []))) (are_distinct same (ys ++ x ∷ []))
        (ap not (list_any-push (λ z. same z y) ys x (not-true (list_any (λ z. same z y) ys) here.0) apart.0))
        (are_distinct-push ys x here.1 apart.1)

    -- a list in which an element stands again later
    pub are_distinct-twice : IsEquivalence same → (xs : List X) (y : X) (ys : List X)
        → list_any (λ e. same e y) xs ≡ true → are_distinct same (xs ++ y ∷ ys) ≡ false
    are_distinct-twice laws [] y ys among = absurd (true≢false (sym among))
    are_distinct-twice laws (x ∷ xs) y ys among = by (or_cases (same x y) (list_any (λ e. same e y) xs) among)
        (are_distinct-twice laws xs y ys)
      where
        by : (same x y ≡ true) ⊎ (list_any (λ e. same e y) xs ≡ true)
            → (list_any (λ e. same e y) xs ≡ true → are_distinct same (xs ++ y ∷ ys) ≡ false)
            → are_distinct same (x ∷ (xs ++ y ∷ ys)) ≡ false
        by (inl here) later =
            let again : list_any (λ e. same e x) (xs ++ y ∷ ys) ≡ true =
            list_any-append (λ e. same e x) xs (y ∷ ys)
            ∙ or_right (list_any (λ e. same e x) xs) (same y x || list_any (λ e. same e x) ys)
            (or_left (same y x) (list_any (λ e. same e x) ys) (laws.symm y x ∙ here)) in
            rw again
        by (inr among) later = and_right (not (list_any (λ e. same e x) (xs ++ y ∷ ys)))
            (are_distinct same (xs ++ y ∷ ys)) (later among)

    apart : IsEquivalence same → (x : X) (xs : List X) → list_any (λ y. same y x) xs ≡ false
        → AllByRecursion (λ y. same x y ≡ false) xs
    apart laws x [] none = tt
    apart laws x (y ∷ ys) none = let here = neither (same y x) (list_any (λ z. same z x) ys) none in
        (laws.symm x y ∙ here.0, apart laws x ys here.1)

    -- as std says it
    pub IsDistinct-from_are_distinct : IsEquivalence same → (xs : List X) → are_distinct same xs ≡ true
        → IsDistinct same xs
    unfolding IsDistinct
    IsDistinct-from_are_distinct laws [] all = tt
    IsDistinct-from_are_distinct laws (x ∷ xs) all =
        let here = and_parts (not (list_any (λ y. same y x) xs)) (are_distinct same xs) all in
        (apart laws x xs (not-true (list_any (λ y. same y x) xs) here.0), IsDistinct-from_are_distinct laws xs here.1)

module _ {K V : Type 0} where
  -- an entry that is there is there with one more
  pub is_some-lookup-push : (test : K → Bool) (es : List (K × V)) (e : K × V) → is_some (lookup test es) ≡ true
      → is_some (lookup test (es ++ e ∷ [])) ≡ true
  is_some-lookup-push test es e there =
      is_some-lookup test (es ++ e ∷ [])
      ∙ ap (list_any test) (map-append (λ (x : K × V). x.0) es (e ∷ []))
      ∙ list_any-append test (keys_of es) (e.0 ∷ [])
      ∙ or_left (list_any test (keys_of es)) (test e.0 || false) (sym (is_some-lookup test es) ∙ there)

  -- a look-up for another key than the one at the end
  pub lookup-push_other : (test : K → Bool) (es : List (K × V)) (e : K × V) → test e.0 ≡ false
      → lookup test (es ++ e ∷ []) ≡ lookup test es
  lookup-push_other test [] e other = rw other
  lookup-push_other test (f ∷ fs) e other =
      ap (λ rest. cond (test f.0) (Some f.1) rest) (lookup-push_other test fs e other)

  -- what is found passes what each entry passes, and stands under a key that passes
  pub lookup-passes : (test : K → Bool) (p : K × V → Bool) (Q : V → Type 0)
      → ((e : K × V) → test e.0 ≡ true → p e ≡ true → Q e.1) → (es : List (K × V)) → list_all p es ≡ true
      → IfSome (lookup test es) Q
  lookup-passes test p Q step [] all = tt
  lookup-passes test p Q step (e ∷ es) all = let here = and_parts (p e) (list_all p es) all in
      by (test e.0) refl here.0 (lookup-passes test p Q step es here.1)
    where
      by : (b : Bool) → test e.0 ≡ b → p e ≡ true → IfSome (lookup test es) Q
          → IfSome (cond (test e.0) (Some e.1) (lookup test es)) Q
      by true h passes later = rw h (step e h passes)
      by false h passes later = rw h later

  -- a new key goes last
  pub insert_entry-absent : (same : K → K → Bool) (es : List (K × V)) (k : K) (v : V)
      → is_some (lookup (same k) es) ≡ false → insert_entry same es k v ≡ es ++ (k, v) ∷ []
  insert_entry-absent same [] k v absent = refl
  insert_entry-absent same (e ∷ es) k v absent = by (same k e.0) refl absent (insert_entry-absent same es k v)
    where
      by : (b : Bool) → same k e.0 ≡ b → is_some (cond (same k e.0) (Some e.1) (lookup (same k) es)) ≡ false
          → (is_some (lookup (same k) es) ≡ false → insert_entry same es k v ≡ es ++ (k, v) ∷ [])
          → insert_entry same (e ∷ es) k v ≡ (e ∷ es) ++ (k, v) ∷ []
      by true h missing later =
          absurd (true≢false (sym (ap (λ c. is_some (cond c (Some e.1) (lookup (same k) es))) h) ∙ missing))
      by false h missing later =
          rw h (ap (λ fs. e ∷ fs) (later (sym (ap (λ c. is_some (cond c (Some e.1) (lookup (same k) es))) h)
          ∙ missing)))

  module _ (test : K → Bool) where
    -- an entry less
    pub length-remove_entry-le : (es : List (K × V)) → length (remove_entry test es) ≤ length es
    length-remove_entry-le [] = omega arith
    length-remove_entry-le (e ∷ es) = by (test e.0) refl (length-remove_entry-le es)
      where
        by : (b : Bool) → test e.0 ≡ b → length (remove_entry test es) ≤ length es
            → length (remove_entry test (e ∷ es)) ≤ length (e ∷ es)
        by true h shorter = rw h (omega arith)
        by false h shorter = rw h (omega arith)

    pub list_all-remove_entry : (p : K × V → Bool) (es : List (K × V)) → list_all p es ≡ true
        → list_all p (remove_entry test es) ≡ true
    list_all-remove_entry p [] all = refl
    list_all-remove_entry p (e ∷ es) all = let here = and_parts (p e) (list_all p es) all in
        by (test e.0) refl here.0 here.1 (list_all-remove_entry p es here.1)
      where
        by : (b : Bool) → test e.0 ≡ b → p e ≡ true → list_all p es ≡ true → list_all p (remove_entry test es) ≡ true
            → list_all p (remove_entry test (e ∷ es)) ≡ true
        by true h first rest kept = rw h rest
        by false h first rest kept = rw h (and_from (p e) (list_all p (remove_entry test es)) first kept)

    pub list_any-remove_entry : (p : K → Bool) (es : List (K × V)) → list_any p (keys_of es) ≡ false
        → list_any p (keys_of (remove_entry test es)) ≡ false
    list_any-remove_entry p [] none = refl
    list_any-remove_entry p (e ∷ es) none = let apart = neither (p e.0) (list_any p (keys_of es)) none in
        by (test e.0) refl apart.0 apart.1 (list_any-remove_entry p es apart.1)
      where
        by : (b : Bool) → test e.0 ≡ b → p e.0 ≡ false → list_any p (keys_of es) ≡ false
            → list_any p (keys_of (remove_entry test es)) ≡ false
            → list_any p (keys_of (remove_entry test (e ∷ es))) ≡ false
        by true h first rest kept = rw h rest
        by false h first rest kept = rw h (λ i. first i || kept i)

    pub are_distinct-remove_entry : (same : K → K → Bool) (es : List (K × V)) → are_distinct same (keys_of es) ≡ true
        → are_distinct same (keys_of (remove_entry test es)) ≡ true
    are_distinct-remove_entry same [] all = refl
    are_distinct-remove_entry same (e ∷ es) all =
        let here = and_parts (not (list_any (λ k. same k e.0) (keys_of es))) (are_distinct same (keys_of es)) all in
        by (test e.0) refl (not-true (list_any (λ k. same k e.0) (keys_of es)) here.0) here.1
        (are_distinct-remove_entry same es here.1)
      where
        by : (b : Bool) → test e.0 ≡ b → list_any (λ k. same k e.0) (keys_of es) ≡ false
            → are_distinct same (keys_of es) ≡ true
            → are_distinct same (keys_of (remove_entry test es)) ≡ true
            → are_distinct same (keys_of (remove_entry test (e ∷ es))) ≡ true
        by true h first rest kept = rw h rest
        by false h first rest kept =
            rw h (and_from (not (list_any (λ k. same k e.0) (keys_of (remove_entry test es))))
            (are_distinct same (keys_of (remove_entry test es)))
            (ap not (list_any-remove_entry (λ k. same k e.0) es first)) kept)
