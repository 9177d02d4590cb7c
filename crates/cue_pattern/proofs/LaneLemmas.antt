-- Names side by side: what a step makes of one lane.
use Rattle.std.proofs.Common.{◌≡◌, ℕ, zero, suc, ◌+◌, ◌-◌, ◌<◌, ◌≤◌, Bool, true, false, ◌&&◌, ◌||◌, ◌==◌, List}
use Rattle.std.proofs.Common.{[], ◌∷◌, length, get_or, set, take, drop, ◌⊎◌, refl, sym, ap, subst, ◌∙◌, arith, inl, inr}
use Rattle.std.proofs.Common.{ne_eqb}
use Rattle.std.proofs.lemmas.List.{length-take, length-take-le}
use Rattle.std.specs.Prelude.{bit_and, bit_or}
use Rattle.std.specs.Int.{bit_at}
use Rattle.std.proofs.Math.Seq.{drop-length, drop-cons, take-length}
use Rattle.std.proofs.lemmas.Bool.{cases_eq, cases_lt, eq-eqb, eqb-true, and_parts}
use Rattle.std.specs.List.{list_all}
use Rattle.std.proofs.lemmas.Nat.Bits.{bit_at_and, bit_at_or, bit_at-zero, bit_at-lt}
use Rattle.cue_pattern.specs.declared.lanes.Lanes.{Lanes}
use Rattle.cue_pattern.specs.declared.piece.Piece.{Piece}
use Rattle.cue_pattern.specs.declared.piece.Piece.TheVariants.{One, Many, Listed, Unlisted, Among, Plain}
use Rattle.cue_pattern.specs.Matching.{takes, is_empty_text, after_any, after_byte, after_text, after_texts, after_piece, part_matches}
use Rattle.cue_pattern.specs.Lanes.{lane, stands_at, Marks, Stands, Reaches}

-- ---- bits

bit-cases : (w j : ℕ) → (bit_at w j ≡ 0) ⊎ (bit_at w j ≡ 1)
bit-cases w j = elim (cases_eq (bit_at w j) 1) [ inl one ↦ inr one | inr ne ↦ inl (omega (arith, bit_at-lt w j)) ]

pub lane-zero : (j : ℕ) → lane j 0 ≡ false
lane-zero j = rw (bit_at-zero j) refl

pub lane-and : (j a b : ℕ) → lane j (bit_and a b) ≡ (lane j a && lane j b)
lane-and j a b = elim (bit-cases a j) [
  | inl p ↦ (elim (bit-cases b j) [ inl q ↦ rw (bit_at_and a b j, p, q) refl | inr q ↦ rw (bit_at_and a b j, p, q) refl ])
  | inr p ↦ (elim (bit-cases b j) [ inl q ↦ rw (bit_at_and a b j, p, q) refl | inr q ↦ rw (bit_at_and a b j, p, q) refl ])
]

pub lane-or : (j a b : ℕ) → lane j (bit_or a b) ≡ (lane j a || lane j b)
lane-or j a b = elim (bit-cases a j) [
  | inl p ↦ (elim (bit-cases b j) [ inl q ↦ rw (bit_at_or a b j, p, q) refl | inr q ↦ rw (bit_at_or a b j, p, q) refl ])
  | inr p ↦ (elim (bit-cases b j) [ inl q ↦ rw (bit_at_or a b j, p, q) refl | inr q ↦ rw (bit_at_or a b j, p, q) refl ])
]

-- ---- where a byte stands

pub stands-in : (test : ℕ → Bool) (t : List ℕ) (k : ℕ) → k < length t → stands_at test t k ≡ test (get_or t k 0)
stands-in test [] k l = absurd (omega arith)
stands-in test (b ∷ t) zero l = refl
stands-in test (b ∷ t) (suc k) l = stands-in test t k (omega arith)

pub stands-past : (test : ℕ → Bool) (t : List ℕ) (k : ℕ) → length t ≤ k → stands_at test t k ≡ false
stands-past test [] k l = refl
stands-past test (b ∷ t) zero l = absurd (omega arith)
stands-past test (b ∷ t) (suc k) l = stands-past test t k (omega arith)

and-false : (x : Bool) → (x && false) ≡ false
and-false true = refl
and-false false = refl

or-false : (x : Bool) → (x || false) ≡ x
or-false true = refl
or-false false = refl

-- ---- a single byte

row-at : (j : ℕ) (text : List ℕ) (test : ℕ → Bool) (rest : List ℕ → Bool) (row old new : List ℕ) → length text < 17
    → Marks test text j row → Reaches rest text j old
    → ((k : ℕ) → k < 16 → get_or new k 0 ≡ bit_and (get_or row k 0) (get_or old (k + 1) 0))
    → (k : ℕ) → k < 16 → lane j (get_or new k 0) ≡ (stands_at test text k && lane j (get_or old (suc k) 0))
row-at j text test rest row old new short marks h moved k l =
    let next : k + 1 ≡ suc k = omega arith in
    ap (lane j) (moved k l) ∙ (lane-and j (get_or row k 0) (get_or old (k + 1) 0)
    ∙ (rw (marks k (omega arith), next) refl))

pub row-reaches : (j : ℕ) (text : List ℕ) (test : ℕ → Bool) (rest : List ℕ → Bool) (row old new : List ℕ)
    → length text < 17 → Marks test text j row → Reaches rest text j old
    → ((k : ℕ) → k < 16 → get_or new k 0 ≡ bit_and (get_or row k 0) (get_or old (k + 1) 0))
    → get_or new 16 0 ≡ 0 → ((k : ℕ) → 17 ≤ k → get_or new k 0 ≡ get_or old k 0)
    → Reaches (after_byte test rest) text j new
row-reaches j text test rest row old new short marks h moved end past = record {
  marks = λ k l. elim (cases_lt k (length text)) [
    | inl less ↦
        row-at j text test rest row old new short marks h moved k (omega arith)
        ∙ (rw (drop-cons text k 0 less, stands-in test text k less, h.marks (suc k) (omega arith)) refl)
    | inr not ↦ (
        let at : k ≡ length text = omega arith in
        let empty : drop k text ≡ [] = ap (λ n. drop n text) at ∙ drop-length text in
        rw empty (elim (cases_lt k 16) [
          | inl less ↦
              row-at j text test rest row old new short marks h moved k less
              ∙ (rw (stands-past test text k (omega arith)) refl)
          | inr last ↦ (let is : k ≡ 16 = omega arith in rw (is, end) (lane-zero j))
        ]))
  ];
  beyond = λ k l. elim (cases_lt k 16) [
    | inl less ↦
        row-at j text test rest row old new short marks h moved k less
        ∙ (rw (stands-past test text k (omega arith)) refl)
    | inr last ↦ (elim (cases_eq k 16) [
      | inl is ↦ rw (is, end) (lane-zero j)
      | inr other ↦ ap (lane j) (past k (omega arith)) ∙ h.beyond k l
    ])
  ];
}

-- ---- any text

many-at : (j : ℕ) (old new : List ℕ)
    → ((k : ℕ) → k < 16 → get_or new k 0 ≡ bit_or (get_or old k 0) (get_or new (k + 1) 0))
    → (k : ℕ) → k < 16 → lane j (get_or new k 0) ≡ (lane j (get_or old k 0) || lane j (get_or new (suc k) 0))
many-at j old new moved k l =
    let next : k + 1 ≡ suc k = omega arith in
    ap (lane j) (moved k l) ∙ (lane-or j (get_or old k 0) (get_or new (k + 1) 0) ∙ rw next refl)

many-beyond : (j : ℕ) (text : List ℕ) (rest : List ℕ → Bool) (old new : List ℕ)
    → Reaches rest text j old
    → ((k : ℕ) → k < 16 → get_or new k 0 ≡ bit_or (get_or old k 0) (get_or new (k + 1) 0))
    → get_or new 16 0 ≡ get_or old 16 0
    → (left k : ℕ) → k + left ≡ 16 → length text < k → lane j (get_or new k 0) ≡ false
many-beyond j text rest old new h moved end zero k is l =
    let at : k ≡ 16 = omega arith in
    rw (at, end) (h.beyond 16 (omega arith))
many-beyond j text rest old new h moved end (suc left) k is l =
    many-at j old new moved k (omega arith)
    ∙ (rw (h.beyond k l, many-beyond j text rest old new h moved end left (suc k) (omega arith) (omega arith)) refl)

many-marks : (j : ℕ) (text : List ℕ) (rest : List ℕ → Bool) (old new : List ℕ) → length text < 17
    → Reaches rest text j old
    → ((k : ℕ) → k < 16 → get_or new k 0 ≡ bit_or (get_or old k 0) (get_or new (k + 1) 0))
    → get_or new 16 0 ≡ get_or old 16 0
    → (left k : ℕ) → k + left ≡ length text → lane j (get_or new k 0) ≡ after_any rest (drop k text)
many-marks j text rest old new short h moved end zero k is =
    let at : k ≡ length text = omega arith in
    let empty : drop k text ≡ [] = ap (λ n. drop n text) at ∙ drop-length text in
    let here : lane j (get_or old k 0) ≡ rest [] = h.marks k (omega arith) ∙ ap rest empty in
    rw empty (elim (cases_lt k 16) [
      | inl less ↦
          many-at j old new moved k less
          ∙ (rw (here, many-beyond j text rest old new h moved end (16 - suc k) (suc k) (omega arith) (omega arith))
          (or-false (rest [])))
      | inr last ↦ (let is16 : k ≡ 16 = omega arith in ap (λ n. lane j (get_or new n 0)) is16 ∙ (ap (lane j) end
          ∙ (ap (λ n. lane j (get_or old n 0)) (sym is16) ∙ here)))
    ])
many-marks j text rest old new short h moved end (suc left) k is =
    let less : k < length text = omega arith in
    many-at j old new moved k (omega arith)
    ∙ (rw (
      h.marks k (omega arith),
      many-marks j text rest old new short h moved end left (suc k) (omega arith),
      drop-cons text k 0 less,
    ) refl)

pub many-reaches : (j : ℕ) (text : List ℕ) (rest : List ℕ → Bool) (old new : List ℕ) → length text < 17
    → Reaches rest text j old
    → ((k : ℕ) → k < 16 → get_or new k 0 ≡ bit_or (get_or old k 0) (get_or new (k + 1) 0))
    → ((k : ℕ) → 16 ≤ k → get_or new k 0 ≡ get_or old k 0) → Reaches (after_any rest) text j new
many-reaches j text rest old new short h moved past = record {
  marks = λ k l. many-marks j text rest old new short h moved (past 16 (omega arith)) (length text - k) k (omega arith);
  beyond = λ k l. elim (cases_lt k 17) [
    | inl less ↦ many-beyond j text rest old new h moved (past 16 (omega arith)) (16 - k) k (omega arith) l
    | inr far ↦ ap (lane j) (past k (omega arith)) ∙ h.beyond k l
  ];
}

-- ---- one or the other

pub join-reaches : (j : ℕ) (name : List ℕ) (f g : List ℕ → Bool) (old other new : List ℕ) → length name < 17
    → Reaches f name j old → Reaches g name j other
    → ((k : ℕ) → k < 17 → get_or new k 0 ≡ bit_or (get_or old k 0) (get_or other k 0))
    → ((k : ℕ) → 17 ≤ k → get_or new k 0 ≡ get_or old k 0)
    → Reaches (λ t. f t || g t) name j new
join-reaches j name f g old other new short h i moved past = record {
  marks = λ k l. ap (lane j) (moved k (omega arith)) ∙ (lane-or j (get_or old k 0) (get_or other k 0)
      ∙ (rw (h.marks k l, i.marks k l) refl));
  beyond = λ k l. elim (cases_lt k 17) [
    | inl less ↦
        ap (lane j) (moved k less) ∙ (lane-or j (get_or old k 0) (get_or other k 0)
        ∙ (rw (h.beyond k l, i.beyond k l) refl))
    | inr far ↦ ap (lane j) (past k (omega arith)) ∙ h.beyond k l
  ];
}

-- ---- tests that say the same

pub reaches-same : (f g : List ℕ → Bool) (name : List ℕ) (j : ℕ) (rows : List ℕ) → ((t : List ℕ) → f t ≡ g t)
    → Reaches f name j rows → Reaches g name j rows
reaches-same f g name j rows same h = record {
  marks = λ k l. h.marks k l ∙ same (drop k name);
  beyond = h.beyond;
}

pub reaches-none : (name : List ℕ) (j : ℕ) (rows : List ℕ) → ((k : ℕ) → get_or rows k 0 ≡ 0)
    → Reaches (λ t. false) name j rows
reaches-none name j rows none = record {
  marks = λ k l. ap (lane j) (none k) ∙ lane-zero j;
  beyond = λ k l. ap (lane j) (none k) ∙ lane-zero j;
}

-- ---- nowhere

-- the test passes at no end of the text
abbrev Never : (List ℕ → Bool) → List ℕ → Type 0
Never rest t = (k : ℕ) → k ≤ length t → rest (drop k t) ≡ false

never-here : (rest : List ℕ → Bool) (t : List ℕ) → Never rest t → rest t ≡ false
never-here rest t h = h 0 (omega arith)

never-tail : (rest : List ℕ → Bool) (b : ℕ) (t : List ℕ) → Never rest (b ∷ t) → Never rest t
never-tail rest b t h = λ k l. h (suc k) (omega arith)

never-byte : (test : ℕ → Bool) (rest : List ℕ → Bool) (t : List ℕ) → Never rest t → after_byte test rest t ≡ false
never-byte test rest [] h = refl
never-byte test rest (b ∷ t) h = rw (never-here rest t (never-tail rest b t h)) (and-false (test b))

never-any : (rest : List ℕ → Bool) (t : List ℕ) → Never rest t → after_any rest t ≡ false
never-any rest [] h = never-here rest [] h
never-any rest (b ∷ t) h = rw (never-here rest (b ∷ t) h) (never-any rest t (never-tail rest b t h))

never-text : (u : List ℕ) (rest : List ℕ → Bool) (t : List ℕ) → Never rest t → after_text u rest t ≡ false
never-text [] rest t h = never-here rest t h
never-text (c ∷ u) rest [] h = refl
never-text (c ∷ u) rest (b ∷ t) h = rw (never-text u rest t (never-tail rest b t h)) (and-false (c == b))

never-texts : (ts : List (List ℕ)) (rest : List ℕ → Bool) (t : List ℕ) → Never rest t → after_texts ts rest t ≡ false
never-texts [] rest t h = refl
never-texts (u ∷ us) rest t h = rw (never-text u rest t h) (never-texts us rest t h)

never-piece : (p : Piece) (rest : List ℕ → Bool) (t : List ℕ) → Never rest t → after_piece p rest t ≡ false
never-piece One rest t h = never-byte (takes One) rest t h
never-piece Many rest t h = never-any rest t h
never-piece (Listed rs) rest t h = never-byte (takes (Listed rs)) rest t h
never-piece (Unlisted rs) rest t h = never-byte (takes (Unlisted rs)) rest t h
never-piece (Among ts) rest t h = never-texts ts rest t h
never-piece (Plain c) rest t h = never-byte (takes (Plain c)) rest t h

never-later : (rest : List ℕ → Bool) (n : ℕ) (t : List ℕ) → n ≤ length t → Never rest t → Never rest (drop n t)
never-later rest zero t l h = h
never-later rest (suc n) [] l h = h
never-later rest (suc n) (b ∷ t) l h = never-later rest n t (omega arith) (never-tail rest b t h)

pub nowhere-reaches : (p : Piece) (rest : List ℕ → Bool) (name : List ℕ) (j : ℕ) (rows : List ℕ)
    → ((k : ℕ) → get_or rows k 0 ≡ 0) → Reaches rest name j rows → Reaches (after_piece p rest) name j rows
nowhere-reaches p rest name j rows none h =
    let never : Never rest name = λ k l. sym (h.marks k l) ∙ (ap (lane j) (none k) ∙ lane-zero j) in record {
      marks = λ k l. ap (lane j) (none k) ∙ (lane-zero j
          ∙ sym (never-piece p rest (drop k name) (never-later rest k name l never)));
      beyond = h.beyond;
    }

-- ---- before any piece

end-empty : (t : List ℕ) (k : ℕ) → k ≤ length t → (k == length t) ≡ is_empty_text (drop k t)
end-empty t k l = elim (cases_lt k (length t)) [
  | inl less ↦ ne_eqb k (length t) (omega arith) ∙ (rw (drop-cons t k 0 less) refl)
  | inr not ↦ (
      let at : k ≡ length t = omega arith in
      let empty : drop k t ≡ [] = ap (λ n. drop n t) at ∙ drop-length t in
      eq-eqb k (length t) at ∙ rw empty refl)
]

end-not : (t : List ℕ) (k : ℕ) → length t < k → (k == length t) ≡ false
end-not t k l = ne_eqb k (length t) (omega arith)

pub ends-reach : (lanes : Lanes) (j : ℕ) (name : List ℕ) → Stands lanes j name
    → Reaches is_empty_text name j lanes.ends
ends-reach lanes j name h = record {
  marks = λ k l. h.end k ∙ end-empty name k l;
  beyond = λ k l. h.end k ∙ end-not name k l;
}

-- ---- the last of what is left

take-less : {X : Type 0} (n : ℕ) (ps : List X) → take n (take (suc n) ps) ≡ take n ps
take-less zero ps = refl
take-less (suc n) [] = refl
take-less (suc n) (p ∷ ps) = ap (λ x. p ∷ x) (take-less n ps)

last-of : {X : Type 0} (ps : List X) (last : X) (n : ℕ) → n < length ps → last ≡ get_or (take (suc n) ps) n last
    → drop n ps ≡ last ∷ drop (suc n) ps
last-of [] last n l h = absurd (omega arith)
last-of (p ∷ ps) last zero l h = ap (λ x. x ∷ ps) (sym h)
last-of (p ∷ ps) last (suc n) l h = last-of ps last n (omega arith) h

pub split-last : {X : Type 0} (ps rest : List X) (last : X) (n : ℕ) → length rest ≡ suc n
    → rest ≡ take (length rest) ps → last ≡ get_or rest (length rest - 1) last
    → (take (length rest - 1) rest ≡ take (length (take (length rest - 1) rest)) ps)
    × (drop (length (take (length rest - 1) rest)) ps ≡ last ∷ drop (length rest) ps)
split-last {X} ps rest last n len before is =
    let less : length rest - 1 ≡ n = omega arith in
    let shorter : length (take (length rest - 1) rest) ≡ n = length-take-le (length rest - 1) rest (omega arith)
    ∙ less in
    let whole : rest ≡ take (suc n) ps = before ∙ ap (λ (m : ℕ). take m ps) len in
    let front : take (length rest - 1) rest ≡ take n ps = ap (λ (m : ℕ). take m rest) less
    ∙ (ap (take n) whole ∙ take-less n ps) in
    let within : n < length ps = omega (arith, length-take (suc n) ps, ap length whole) in
    let last_is : last ≡ get_or (take (suc n) ps) n last = is
    ∙ (ap (λ (m : ℕ). get_or rest m last) less ∙ ap (λ (r : List X). get_or r n last) whole) in
    let split : drop n ps ≡ last ∷ drop (suc n) ps = last-of ps last n within last_is in (
      front ∙ ap (λ (m : ℕ). take m ps) (sym shorter),
      ap (λ (m : ℕ). drop m ps) shorter ∙ (split ∙ ap (λ (m : ℕ). last ∷ drop m ps) (sym len)),
    )

-- ---- one of some texts

text-byte : (c : ℕ) (u : List ℕ) (rest : List ℕ → Bool) (t : List ℕ)
    → after_byte (λ b. c == b) (after_text u rest) t ≡ after_text (c ∷ u) rest t
text-byte c u rest [] = refl
text-byte c u rest (b ∷ t) = refl

-- with one byte more in front
pub text-more : (u : List ℕ) (rest : List ℕ → Bool) (c : ℕ) (left shorter name : List ℕ) (j : ℕ) (rows : List ℕ)
    → shorter ≡ c ∷ left → Reaches (after_byte (λ b. c == b) (after_text left rest)) name j rows
    → Reaches (after_text shorter rest) name j rows
text-more u rest c left shorter name j rows is h =
    subst (λ (v : List ℕ). Reaches (after_text v rest) name j rows) (sym is)
    (reaches-same (after_byte (λ b. c == b) (after_text left rest)) (after_text (c ∷ left) rest) name j rows
    (text-byte c left rest) h)

or-assoc : (a b c : Bool) → ((a || b) || c) ≡ (a || (b || c))
or-assoc true b c = refl
or-assoc false b c = refl

texts-more : (ts : List (List ℕ)) (u : List ℕ) (i : ℕ) (rest : List ℕ → Bool) (t : List ℕ) → i < length ts
    → u ≡ get_or ts i u
    → (after_texts (take i ts) rest t || after_text u rest t) ≡ after_texts (take (suc i) ts) rest t
texts-more [] u i rest t l is = absurd (omega arith)
texts-more (v ∷ vs) u zero rest t l is =
    ap (λ (x : List ℕ). after_text x rest t) is ∙ sym (or-false (after_text v rest t))
texts-more (v ∷ vs) u (suc i) rest t l is =
    or-assoc (after_text v rest t) (after_texts (take i vs) rest t) (after_text u rest t)
    ∙ ap (λ (x : Bool). after_text v rest t || x) (texts-more vs u i rest t (omega arith) is)

-- with one text more
pub texts-reach : (ts : List (List ℕ)) (u : List ℕ) (i : ℕ) (rest : List ℕ → Bool) (name : List ℕ) (j : ℕ)
    (rows : List ℕ) → i < length ts → u ≡ get_or ts i u
    → Reaches (λ t. after_texts (take i ts) rest t || after_text u rest t) name j rows
    → Reaches (after_texts (take (i + 1) ts) rest) name j rows
texts-reach ts u i rest name j rows l is h =
    let next : i + 1 ≡ suc i = omega arith in
    reaches-same _ (after_texts (take (i + 1) ts) rest) name j rows
    (λ t. texts-more ts u i rest t l is ∙ ap (λ (n : ℕ). after_texts (take n ts) rest t) (sym next)) h

-- ---- words that are all 0

pub all-zero : (rows : List ℕ) → list_all (λ word. word == 0) rows ≡ true → (k : ℕ) → get_or rows k 0 ≡ 0
all-zero [] h k = refl
all-zero (word ∷ rows) h zero = eqb-true word 0 (and_parts _ _ h).0
all-zero (word ∷ rows) h (suc k) = all-zero rows (and_parts _ _ h).1 k

pub set-zero : (rows : List ℕ) (k : ℕ) → get_or (set rows k 0) k 0 ≡ 0
set-zero [] k = refl
set-zero (word ∷ rows) zero = refl
set-zero (word ∷ rows) (suc k) = set-zero rows k

-- ---- from the last piece to the first

pub pieces-start : (ps rest : List Piece) (lanes : Lanes) → rest ≡ ps
    → (rest ≡ take (length rest) ps)
    × ((j : ℕ) (name : List ℕ) → Stands lanes j name
    → Reaches (part_matches (drop (length rest) ps)) name j lanes.ends)
unfolding part_matches
pieces-start ps rest lanes same = (
  sym (take-length rest) ∙ ap (take (length rest)) same,
  λ j name h. subst (λ (q : List Piece). Reaches (part_matches q) name j lanes.ends)
      (sym (ap (drop (length rest)) (sym same) ∙ drop-length rest)) (ends-reach lanes j name h),
)

pub pieces-more : (last : Piece) (left longer : List Piece) (name : List ℕ) (j : ℕ) (rows : List ℕ)
    → longer ≡ last ∷ left → Reaches (after_piece last (part_matches left)) name j rows
    → Reaches (part_matches longer) name j rows
unfolding part_matches
pieces-more last left longer name j rows is h =
    subst (λ (q : List Piece). Reaches (part_matches q) name j rows) (sym is) h

pub pieces-done : (ps rest : List Piece) (name : List ℕ) (j : ℕ) (rows : List ℕ) → length rest ≡ 0
    → Reaches (part_matches (drop (length rest) ps)) name j rows → lane j (get_or rows 0 0) ≡ part_matches ps name
pieces-done ps rest name j rows none h =
    h.marks 0 (omega arith) ∙ ap (λ (n : ℕ). part_matches (drop n ps) name) none

-- an item within a list is the same whatever stands for one that is not
pub last-default : (xs : List ℕ) (k : ℕ) → k < length xs → get_or xs k 0 ≡ get_or xs k (get_or xs k 0)
last-default [] k l = absurd (omega arith)
last-default (x ∷ xs) zero l = refl
last-default (x ∷ xs) (suc k) l = last-default xs k (omega arith)

-- the item of the same list
pub item-of : (ts us : List (List ℕ)) (u : List ℕ) (i : ℕ) → us ≡ ts → u ≡ get_or us i u → u ≡ get_or ts i u
item-of ts us u i same is = subst (λ (vs : List (List ℕ)). u ≡ get_or vs i u) same is

abbrev pub zeros : List ℕ
zeros = 0 ∷ 0 ∷ 0 ∷ 0 ∷ 0 ∷ 0 ∷ 0 ∷ 0 ∷ 0 ∷ 0 ∷ 0 ∷ 0 ∷ 0 ∷ 0 ∷ 0 ∷ 0 ∷ 0 ∷ []

-- a row without names
pub zero-row : (k : ℕ) → get_or zeros k 0 ≡ 0
zero-row k = all-zero zeros refl k
