-- The table of names side by side: where a letter stands, and how a name is put into its lane.
use Rattle.std.proofs.Common.{◌≡◌, ◌≢◌, ℕ, zero, suc, ◌+◌, ◌-◌, ◌*◌, ◌<◌, ◌≤◌, Bool, true, false, ◌&&◌, ◌||◌, ◌==◌, List}
use Rattle.std.proofs.Common.{[], ◌∷◌, length, get_or, set, take, drop, refl, sym, ap, ◌∙◌, arith, inl, inr, map}
use Rattle.std.proofs.Common.{get_or-set_other, get_or-set_same, ne_eqb, true≢false, replicate, append_assoc, ◌++◌, w64, ◌^◌, ◌%◌}
use Rattle.std.specs.Prelude.{bit_or, nat_lt}
use Rattle.std.specs.List.{list_all}
use Rattle.std.proofs.Math.Dec.{ltb}
use Rattle.std.proofs.lemmas.Bool.{cases_eq, cases_lt, eq-eqb, and_parts, lt-ltb, ltb-true, leb-true}
use Rattle.std.proofs.lemmas.Bool.Decides.{leb_tells}
use Rattle.std.proofs.lemmas.Nat.Bits.{bit_at_set_same, bit_at_set_other}
use Rattle.cue_pattern.specs.declared.lanes.Lanes.{Lanes}
use Rattle.cue_pattern.specs.Lanes.{lane, is_letter, stands_at, Stands, IsBlank, SameLane}
use Rattle.cue_pattern.proofs.LaneLemmas.{lane-zero, lane-or}

-- ---- what says the same of letters

pub stands-known : (f g : ℕ → Bool) → ((b : ℕ) → is_letter b ≡ true → f b ≡ g b) → (t : List ℕ) (k : ℕ)
    → list_all is_letter t ≡ true → stands_at f t k ≡ stands_at g t k
stands-known f g same [] k h = refl
stands-known f g same (b ∷ t) zero h = same b (and_parts _ _ h).0
stands-known f g same (b ∷ t) (suc k) h = stands-known f g same t k (and_parts _ _ h).1

pub stands-none : (t : List ℕ) (k : ℕ) → stands_at (λ b. false) t k ≡ false
stands-none [] k = refl
stands-none (b ∷ t) zero = refl
stands-none (b ∷ t) (suc k) = stands-none t k

stands-or : (f g : ℕ → Bool) (t : List ℕ) (k : ℕ)
    → stands_at (λ b. f b || g b) t k ≡ (stands_at f t k || stands_at g t k)
stands-or f g [] k = refl
stands-or f g (b ∷ t) zero = refl
stands-or f g (b ∷ t) (suc k) = stands-or f g t k

letter-from : (b : ℕ) → is_letter b ≡ true → 46 ≤ b
letter-from b h = leb-true 46 b (and_parts _ _ h).0

letter-below : (b : ℕ) → is_letter b ≡ true → b < 58
letter-below b h = ltb-true b 58 (and_parts _ _ h).1

lt-false : (a b : ℕ) → b ≤ a → nat_lt a b ≡ false
lt-false a b l = elim (leb_tells (suc a) b) [ inl p ↦ absurd (omega (arith, p.1)) | inr q ↦ q.0 ]

and-false : (x : Bool) → (x && false) ≡ false
and-false true = refl
and-false false = refl

and-true : (x : Bool) → (x && true) ≡ x
and-true true = refl
and-true false = refl

or-false : (x : Bool) → (x || false) ≡ x
or-false true = refl
or-false false = refl

-- a byte that is no letter stands nowhere
pub no-letter : (b : ℕ) → is_letter b ≡ false → (j : ℕ) (word : ℕ) (t : List ℕ) (k : ℕ) → word ≡ 0
    → list_all is_letter t ≡ true → lane j word ≡ stands_at (λ c. b == c) t k
no-letter b not j word t k is h =
    ap (lane j) is ∙ (lane-zero j ∙ (sym (stands-none t k)
    ∙ stands-known (λ c. false) (λ c. b == c) (λ c l. sym (ne_eqb b c (λ same. true≢false
    (sym l ∙ (ap is_letter (sym same) ∙ not))))) t k h))

-- ---- the letters that a piece takes

below-first : (test : ℕ → Bool) (b : ℕ) → is_letter b ≡ true → false ≡ (test b && nat_lt b (46 + 0))
below-first test b l = sym (rw (lt-false b (46 + 0) (omega (arith, letter-from b l))) (and-false (test b)))

pub taken-none : (test : ℕ → Bool) (j word : ℕ) (t : List ℕ) (k : ℕ) → word ≡ 0 → list_all is_letter t ≡ true
    → lane j word ≡ stands_at (λ b. test b && nat_lt b (46 + 0)) t k
taken-none test j word t k is h =
    ap (lane j) is ∙ (lane-zero j ∙ (sym (stands-none t k)
    ∙ stands-known (λ b. false) (λ b. test b && nat_lt b (46 + 0)) (below-first test) t k h))

one-more : (test : ℕ → Bool) (n b : ℕ) → test n ≡ true
    → ((test b && nat_lt b n) || (n == b)) ≡ (test b && nat_lt b (n + 1))
one-more test n b takes = elim (cases_eq n b) [
  | inl same ↦ (let at : test b ≡ true = ap test (sym same) ∙ takes in
      rw (at, lt-false b n (omega arith), eq-eqb n b same, lt-ltb b (n + 1) (omega arith)) refl)
  | inr other ↦ rw (ne_eqb n b other) (or-false (test b && nat_lt b n) ∙ (elim (cases_lt b n) [
    | inl less ↦ rw (lt-ltb b n less, lt-ltb b (n + 1) (omega arith)) refl
    | inr not ↦ rw (lt-false b n (omega arith), lt-false b (n + 1) (omega arith)) refl
  ]))
]

not-more : (test : ℕ → Bool) (n b : ℕ) → test n ≡ false
    → (test b && nat_lt b n) ≡ (test b && nat_lt b (n + 1))
not-more test n b leaves = elim (cases_eq n b) [
  | inl same ↦ (let at : test b ≡ false = ap test (sym same) ∙ leaves in rw at refl)
  | inr other ↦ (elim (cases_lt b n) [
    | inl less ↦ rw (lt-ltb b n less, lt-ltb b (n + 1) (omega arith)) refl
    | inr not ↦ rw (lt-false b n (omega arith), lt-false b (n + 1) (omega arith)) refl
  ])
]

next-letter : (m : ℕ) → 46 + m + 1 ≡ 46 + (m + 1)
next-letter m = omega arith

pub taken-more : (test : ℕ → Bool) (m : ℕ) (j word old letter : ℕ) (t : List ℕ) (k : ℕ) → test (46 + m) ≡ true
    → word ≡ bit_or old letter → lane j old ≡ stands_at (λ b. test b && nat_lt b (46 + m)) t k
    → lane j letter ≡ stands_at (λ b. 46 + m == b) t k → list_all is_letter t ≡ true
    → lane j word ≡ stands_at (λ b. test b && nat_lt b (46 + (m + 1))) t k
taken-more test m j word old letter t k takes is before here h =
    ap (lane j) is ∙ (lane-or j old letter
    ∙ (ap (λ x. x || lane j letter) before
    ∙ (ap (λ x. stands_at (λ b. test b && nat_lt b (46 + m)) t k || x) here
    ∙ (sym (stands-or (λ b. test b && nat_lt b (46 + m)) (λ b. 46 + m == b) t k)
    ∙ stands-known _ (λ b. test b && nat_lt b (46 + (m + 1)))
    (λ b l. one-more test (46 + m) b takes ∙ ap (λ n. test b && nat_lt b n) (next-letter m)) t k h))))

pub taken-less : (test : ℕ → Bool) (m : ℕ) (j word old : ℕ) (t : List ℕ) (k : ℕ) → test (46 + m) ≡ false
    → word ≡ old → lane j old ≡ stands_at (λ b. test b && nat_lt b (46 + m)) t k → list_all is_letter t ≡ true
    → lane j word ≡ stands_at (λ b. test b && nat_lt b (46 + (m + 1))) t k
taken-less test m j word old t k leaves is before h =
    ap (lane j) is ∙ (before ∙ stands-known _ (λ b. test b && nat_lt b (46 + (m + 1)))
    (λ b l. not-more test (46 + m) b leaves ∙ ap (λ n. test b && nat_lt b n) (next-letter m)) t k h)

pub taken-all : (test : ℕ → Bool) (m : ℕ) (j word : ℕ) (t : List ℕ) (k : ℕ) → m ≡ 12
    → lane j word ≡ stands_at (λ b. test b && nat_lt b (46 + m)) t k → list_all is_letter t ≡ true
    → lane j word ≡ stands_at test t k
taken-all test m j word t k all before h =
    before ∙ stands-known (λ b. test b && nat_lt b (46 + m)) test
    (λ b l. rw (lt-ltb b (46 + m) (omega (arith, letter-below b l))) (and-true (test b))) t k h

-- ---- a name is put into its lane

stands-more : (test : ℕ → Bool) (t : List ℕ) (n k : ℕ) → n < length t → k ≢ n
    → stands_at test (take n t) k ≡ stands_at test (take (suc n) t) k
stands-more test [] n k l apart = absurd (omega arith)
stands-more test (b ∷ t) zero zero l apart = absurd (apart refl)
stands-more test (b ∷ t) zero (suc k) l apart = refl
stands-more test (b ∷ t) (suc n) zero l apart = refl
stands-more test (b ∷ t) (suc n) (suc k) l apart = stands-more test t n k (omega arith) (λ e. apart (ap suc e))

stands-last : (test : ℕ → Bool) (t : List ℕ) (n : ℕ) → n < length t
    → stands_at test (take (suc n) t) n ≡ test (get_or t n 0)
stands-last test [] n l = absurd (omega arith)
stands-last test (b ∷ t) zero l = refl
stands-last test (b ∷ t) (suc n) l = stands-last test t n (omega arith)

stands-not-yet : (test : ℕ → Bool) (t : List ℕ) (n : ℕ) → stands_at test (take n t) n ≡ false
stands-not-yet test t zero = refl
stands-not-yet test [] (suc n) = refl
stands-not-yet test (b ∷ t) (suc n) = stands-not-yet test t n

known-at : (t : List ℕ) (k : ℕ) → k < length t → list_all is_letter t ≡ true → is_letter (get_or t k 0) ≡ true
known-at [] k l h = absurd (omega arith)
known-at (b ∷ t) zero l h = (and_parts _ _ h).0
known-at (b ∷ t) (suc k) l h = known-at t k (omega arith) (and_parts _ _ h).1

pub put-here : (j : ℕ) (name letters : List ℕ) (n cell word : ℕ) → n < length name → length name < 17
    → list_all is_letter name ≡ true → cell ≡ (get_or name n 0 - 46) * 17 + n → cell < length letters
    → lane j word ≡ true
    → ((m k : ℕ) → m < 12 → k < 17
    → lane j (get_or letters (m * 17 + k) 0) ≡ stands_at (λ b. 46 + m == b) (take n name) k)
    → (m k : ℕ) → m < 12 → k < 17
    → lane j (get_or (set letters cell word) (m * 17 + k) 0) ≡ stands_at (λ b. 46 + m == b) (take (n + 1) name) k
put-here j name letters n cell word l short known at within set_in before m k lm lk =
    let b : ℕ = get_or name n 0 in
    let is_known : is_letter b ≡ true = known-at name n l known in
    let low : 46 ≤ b = letter-from b is_known in
    let next : n + 1 ≡ suc n = omega arith in
    rw next (elim (cases_eq k n) [
      | inl same ↦ (elim (cases_eq (46 + m) b) [
        | inl letter ↦ (
            let here : m * 17 + k ≡ cell = omega arith in
            ap (λ i. lane j (get_or (set letters cell word) i 0)) here
            ∙ (ap (lane j) (get_or-set_same letters cell word 0 within) ∙ (set_in
            ∙ (sym (ap (stands_at (λ c. 46 + m == c) (take (suc n) name)) same
            ∙ (stands-last (λ c. 46 + m == c) name n l ∙ eq-eqb (46 + m) b letter))))))
        | inr other ↦ (
            let apart : m * 17 + k ≢ cell = omega arith in
            ap (lane j) (get_or-set_other letters cell (m * 17 + k) word 0 apart)
            ∙ (before m k lm lk ∙ (ap (stands_at (λ c. 46 + m == c) (take n name)) same
            ∙ (stands-not-yet (λ c. 46 + m == c) name n
            ∙ sym (ap (stands_at (λ c. 46 + m == c) (take (suc n) name)) same
            ∙ (stands-last (λ c. 46 + m == c) name n l ∙ ne_eqb (46 + m) b other))))))
      ])
      | inr other ↦ (
          let apart : m * 17 + k ≢ cell = omega arith in
          ap (lane j) (get_or-set_other letters cell (m * 17 + k) word 0 apart)
          ∙ (before m k lm lk ∙ stands-more (λ c. 46 + m == c) name n k l other))
    ])

-- the other lanes keep what they have
pub put-others : (j : ℕ) (letters : List ℕ) (cell word : ℕ) → cell < length letters
    → lane j word ≡ lane j (get_or letters cell 0) → (i : ℕ)
    → lane j (get_or (set letters cell word) i 0) ≡ lane j (get_or letters i 0)
put-others j letters cell word within same i = elim (cases_eq i cell) [
  | inl is ↦ rw is (ap (lane j) (get_or-set_same letters cell word 0 within) ∙ same)
  | inr apart ↦ ap (lane j) (get_or-set_other letters cell i word 0 apart)
]

pub put-end : (j : ℕ) (ends : List ℕ) (n word : ℕ) → n < length ends → lane j word ≡ true
    → ((i : ℕ) → lane j (get_or ends i 0) ≡ false) → (k : ℕ)
    → lane j (get_or (set ends n word) k 0) ≡ (k == n)
put-end j ends n word within here blank k = elim (cases_eq k n) [
  | inl is ↦ rw is (ap (lane j) (get_or-set_same ends n word 0 within) ∙ (here ∙ sym (eq-eqb n n refl)))
  | inr apart ↦ ap (lane j) (get_or-set_other ends n k word 0 apart) ∙ (blank k ∙ sym (ne_eqb k n apart))
]

-- ---- all names

pub same-stands : (j : ℕ) (a b : Lanes) (t : List ℕ) → SameLane j a b → Stands a j t → Stands b j t
same-stands j a b t same h = record {
  long = h.long;
  known = h.known;
  letter = λ l k lm lk. sym (same.letter (l * 17 + k)) ∙ h.letter l k lm lk;
  end = λ k. sym (same.end k) ∙ h.end k;
}

pub same-blank : (j : ℕ) (a b : Lanes) → SameLane j a b → IsBlank a j → IsBlank b j
same-blank j a b same h = record {
  letter = λ i. sym (same.letter i) ∙ h.letter i;
  end = λ i. sym (same.end i) ∙ h.end i;
}

-- ---- one bit

pub with-here : (word k : ℕ) → k < 64 → lane k (bit_or word (1 * 2 ^ k % 2 ^ 64)) ≡ true
with-here word k l = ap (λ x. x == 1) (bit_at_set_same w64 word k l)

pub with-other : (word k j : ℕ) → k < 64 → j ≢ k → lane j (bit_or word (1 * 2 ^ k % 2 ^ 64)) ≡ lane j word
with-other word k j l apart = ap (λ x. x == 1) (bit_at_set_other w64 word k l j apart)

-- ---- lists

pub zero-cells : (n k : ℕ) → get_or (replicate {A = ℕ} n 0) k 0 ≡ 0
zero-cells zero k = refl
zero-cells (suc n) zero = refl
zero-cells (suc n) (suc k) = zero-cells n k

pub name-at : {X : Type 0} (now : X → List ℕ) (xs : List X) (i : ℕ) (d : X) → i < length xs
    → now (get_or xs i d) ≡ get_or (map now xs) i []
name-at now [] i d l = absurd (omega arith)
name-at now (x ∷ xs) zero d l = refl
name-at now (x ∷ xs) (suc i) d l = name-at now xs i d (omega arith)

matched-at : {X : Type 0} (now : X → List ℕ) (p : List ℕ → Bool) (xs : List X) (i : ℕ) → i < length xs
    → drop i (map (λ x. p (now x)) xs) ≡ p (get_or (map now xs) i []) ∷ drop (suc i) (map (λ x. p (now x)) xs)
matched-at now p [] i l = absurd (omega arith)
matched-at now p (x ∷ xs) zero l = refl
matched-at now p (x ∷ xs) (suc i) l = matched-at now p xs i (omega arith)

pub push-more : {X : Type 0} (now : X → List ℕ) (p : List ℕ → Bool) (xs : List X) (i : ℕ) (found all new : List Bool)
    (b : Bool) → i < length xs → b ≡ p (get_or (map now xs) i []) → found ++ drop i (map (λ x. p (now x)) xs) ≡ all
    → new ≡ found ++ b ∷ [] → new ++ drop (i + 1) (map (λ x. p (now x)) xs) ≡ all
push-more now p xs i found all new b l is before grown =
    let next : i + 1 ≡ suc i = omega arith in
    ap (λ n. new ++ drop n (map (λ x. p (now x)) xs)) next
    ∙ (ap (λ bs. bs ++ drop (suc i) (map (λ x. p (now x)) xs)) grown
    ∙ (append_assoc found (b ∷ []) (drop (suc i) (map (λ x. p (now x)) xs))
    ∙ (ap (λ c. found ++ c ∷ drop (suc i) (map (λ x. p (now x)) xs)) is
    ∙ (ap (λ bs. found ++ bs) (sym (matched-at now p xs i l)) ∙ before))))

take-none : {X : Type 0} (n : ℕ) → take {A = X} n [] ≡ []
take-none zero = refl
take-none (suc n) = refl

pub take-group : {X : Type 0} (f : X → Bool) (xs : List X) (a b : ℕ)
    → map f (take (a + b) xs) ≡ map f (take a xs) ++ map f (take b (drop a xs))
take-group f xs zero b = let e : 0 + b ≡ b = omega arith in ap (λ n. map f (take n xs)) e
take-group {X} f [] (suc a) b =
    ap (map f) (take-none {X = X} (suc a + b)) ∙ sym (ap (map f) (take-none {X = X} b))
take-group f (x ∷ xs) (suc a) b =
    let e : suc a + b ≡ suc (a + b) = omega arith in
    ap (λ n. map f (take n (x ∷ xs))) e ∙ ap (λ bs. f x ∷ bs) (take-group f xs a b)

pub more-groups : {X : Type 0} (f : X → Bool) (xs : List X) (from many : ℕ) (found new : List Bool)
    → found ≡ map f (take from xs) → new ≡ found ++ map f (take (from + many - from) (drop from xs))
    → new ≡ map f (take (from + many) xs)
more-groups f xs from many found new before grown =
    let len : from + many - from ≡ many = omega arith in
    grown ∙ (ap (λ n. found ++ map f (take n (drop from xs))) len
    ∙ (ap (λ bs. bs ++ map f (take many (drop from xs))) before ∙ sym (take-group f xs from many)))

pub name-below : (t : List ℕ) (k : ℕ) → k < length t → list_all is_letter t ≡ true → get_or t k 0 < 58
name-below t k l h = letter-below (get_or t k 0) (known-at t k l h)
