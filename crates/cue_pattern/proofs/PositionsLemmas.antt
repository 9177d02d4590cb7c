-- The set of positions: what a step makes of the marks.
use Rattle.std.proofs.Common.{◌≡◌, ◌≢◌, ℕ, zero, suc, ◌+◌, ◌-◌, ◌<◌, ◌≤◌, Bool, true, false, ◌&&◌, ◌||◌, ◌==◌, List, []}
use Rattle.std.proofs.Common.{◌∷◌, length, get_or, set, take, drop, ◌⊎◌, refl, sym, ap, subst, ◌∙◌, arith, inl, inr}
use Rattle.std.proofs.Common.{get_or-set_other, get_or-set_same, length-set, add-one}
use Rattle.std.specs.List.{list_any}
use Rattle.std.proofs.Math.Seq.{drop-length, drop-cons, take-length}
use Rattle.std.proofs.lemmas.List.{length-take, length-take-le}
use Rattle.std.proofs.lemmas.Bool.{cases_eq}
use Rattle.cue_pattern.specs.declared.ranges.Ranges.{Ranges}
use Rattle.cue_pattern.specs.declared.piece.Piece.{Piece}
use Rattle.cue_pattern.specs.declared.piece.Piece.TheVariants.{One, Listed, Unlisted, Plain}
use Rattle.cue_pattern.specs.Matching.{takes, is_empty_text, after_any, after_byte, after_text, after_texts}
use Rattle.cue_pattern.specs.Matching.{after_piece, part_matches}
use Rattle.cue_pattern.specs.Steps.{Tells, leads}

-- at a position within the text stands a byte, and behind it the next position
drop-byte : (t : List ℕ) (k : ℕ) → k < length t → drop k t ≡ get_or t k 0 ∷ drop (suc k) t
drop-byte t k l = drop-cons t k 0 l

cases_end : (k n : ℕ) → k ≤ n → (k < n) ⊎ (k ≡ n)
cases_end k n l = elim (cases_eq k n) [ inl e ↦ inr e | inr ne ↦ inl (omega arith) ]

-- ---- before any piece

pub Tells-start : (t : List ℕ) (marks : List Bool) → length t < length marks
    → ((k : ℕ) → k < length t → get_or marks k false ≡ false) → Tells is_empty_text t (set marks (length t) true)
Tells-start t marks l none = record {
  long = omega (arith, length-set marks (length t) true);
  marks = λ k at. elim (cases_end k (length t) at) [
    | inl less ↦ (let ne : k ≢ length t = omega arith in rw (get_or-set_other, drop-byte t k less) (none k less))
    | inr end ↦ rw (end, drop-length t) (let lt : length t < length marks = l in rw get_or-set_same refl)
  ];
}

-- ---- a single byte

-- the pieces that stand for single bytes
pub bytewise : (p : Piece)
    → (p ≡ One) ⊎ (((rs : Ranges) × (p ≡ Listed rs))
    ⊎ (((rs : Ranges) × (p ≡ Unlisted rs)) ⊎ ((b : ℕ) × (p ≡ Plain b)))) → (rest : List ℕ → Bool)
    → after_piece p rest ≡ after_byte (takes p) rest
bytewise p (inl is) rest = rw is refl
bytewise p (inr (inl (rs, is))) rest = rw is refl
bytewise p (inr (inr (inl (rs, is)))) rest = rw is refl
bytewise p (inr (inr (inr (b, is)))) rest = rw is refl

-- ---- any text

many-at : (rest : List ℕ → Bool) (t : List ℕ) (old new : List Bool) → Tells rest t old
    → ((k : ℕ) → k < length t → get_or new k false ≡ (get_or old k false || get_or new (k + 1) false))
    → get_or new (length t) false ≡ get_or old (length t) false → (left k : ℕ) → k + left ≡ length t
    → get_or new k false ≡ after_any rest (drop k t)
many-at rest t old new h moved end zero k is =
    let at : k ≡ length t = omega arith in
    rw (at, end, h.marks (length t) (omega arith), drop-length t) refl
many-at rest t old new h moved end (suc left) k is =
    let less : k < length t = omega arith in
    let later = many-at rest t old new h moved end left (suc k) (omega arith) in
    let here = h.marks k (omega arith) in
    moved k less ∙ (rw (add-one, later, here, drop-byte t k less) refl)

pub Tells-many : (rest : List ℕ → Bool) (t : List ℕ) (old new : List Bool) → Tells rest t old → length new ≡ length old
    → ((k : ℕ) → k < length t → get_or new k false ≡ (get_or old k false || get_or new (k + 1) false))
    → get_or new (length t) false ≡ get_or old (length t) false → Tells (after_any rest) t new
Tells-many rest t old new h same moved end = record {
  long = omega (arith, h.long);
  marks = λ k l. many-at rest t old new h moved end (length t - k) k (omega arith);
}

-- ---- one of some texts

and-assoc : (a b c : Bool) → ((a && b) && c) ≡ (a && (b && c))
and-assoc true b c = refl
and-assoc false b c = refl

Tells-tail : (rest : List ℕ → Bool) (b : ℕ) (t : List ℕ) (x : Bool) (marks : List Bool) → Tells rest (b ∷ t) (x ∷ marks)
    → Tells rest t marks
Tells-tail rest b t x marks h = record { long = omega (arith, h.long); marks = λ k l. h.marks (suc k) (omega arith) }

Tells-drop : (k : ℕ) (rest : List ℕ → Bool) (t : List ℕ) (marks : List Bool) → k ≤ length t → Tells rest t marks
    → Tells rest (drop k t) (drop k marks)
Tells-drop zero rest t marks l h = h
Tells-drop (suc k) rest [] marks l h = absurd (omega arith)
Tells-drop (suc k) rest (b ∷ t) [] l h = absurd (omega (arith, h.long))
Tells-drop (suc k) rest (b ∷ t) (x ∷ marks) l h =
    Tells-drop k rest t marks (omega arith) (Tells-tail rest b t x marks h)

leads-is : (u : List ℕ) (rest : List ℕ → Bool) (t : List ℕ) (marks : List Bool) → Tells rest t marks
    → leads u t marks ≡ after_text u rest t
leads-is [] rest t marks h = h.marks 0 (omega arith)
leads-is (c ∷ u) rest [] marks h = refl
leads-is (c ∷ u) rest (b ∷ t) [] h = absurd (omega (arith, h.long))
leads-is (c ∷ u) rest (b ∷ t) (x ∷ marks) h =
    and-assoc (c == b) _ _ ∙ ap (λ (y : Bool). (c == b) && y) (leads-is u rest t marks (Tells-tail rest b t x marks h))

some-lead : (ts : List (List ℕ)) (rest : List ℕ → Bool) (t : List ℕ) (marks : List Bool) → Tells rest t marks
    → list_any (λ u. leads u t marks) ts ≡ after_texts ts rest t
some-lead [] rest t marks h = refl
some-lead (u ∷ us) rest t marks h = rw (leads-is u rest t marks h, some-lead us rest t marks h) refl

pub Tells-texts : (ts : List (List ℕ)) (rest : List ℕ → Bool) (t : List ℕ) (old new : List Bool) → Tells rest t old
    → length new ≡ length old
    → ((k : ℕ) → k ≤ length t → get_or new k false ≡ list_any (λ u. leads u (drop k t) (drop k old)) ts)
    → Tells (after_texts ts rest) t new
Tells-texts ts rest t old new h same moved = record {
  long = omega (arith, h.long);
  marks = λ k l. moved k l ∙ some-lead ts rest (drop k t) (drop k old) (Tells-drop k rest t old l h);
}

-- ---- from the last piece to the first

take-less : (n : ℕ) (ps : List Piece) → take n (take (suc n) ps) ≡ take n ps
take-less zero ps = refl
take-less (suc n) [] = refl
take-less (suc n) (p ∷ ps) = ap (λ x. p ∷ x) (take-less n ps)

last-piece : (ps : List Piece) (last : Piece) (n : ℕ) → n < length ps → last ≡ get_or (take (suc n) ps) n last
    → drop n ps ≡ last ∷ drop (suc n) ps
last-piece [] last n l h = absurd (omega arith)
last-piece (p ∷ ps) last zero l h = ap (λ x. x ∷ ps) (sym h)
last-piece (p ∷ ps) last (suc n) l h = last-piece ps last n (omega arith) h

-- with one piece more in front
pub left-more : (ps rest : List Piece) (last : Piece) (text : List ℕ) (marks : List Bool) (n : ℕ) → length rest ≡ suc n
    → rest ≡ take (length rest) ps → last ≡ get_or rest (length rest - 1) last
    → Tells (after_piece last (part_matches (drop (length rest) ps))) text marks
    → (take (length rest - 1) rest ≡ take (length (take (length rest - 1) rest)) ps)
    × Tells (part_matches (drop (length (take (length rest - 1) rest)) ps)) text marks
unfolding part_matches
left-more ps rest last text marks n len before is told =
    let less : length rest - 1 ≡ n = omega arith in
    let shorter : length (take (length rest - 1) rest) ≡ n = length-take-le (length rest - 1) rest (omega arith)
    ∙ less in
    let whole : rest ≡ take (suc n) ps = before ∙ ap (λ (m : ℕ). take m ps) len in
    let front : take (length rest - 1) rest ≡ take n ps = ap (λ (m : ℕ). take m rest) less
    ∙ (ap (take n) whole ∙ take-less n ps) in
    let within : n < length ps = omega (arith, length-take (suc n) ps, ap length whole) in
    let last_is : last ≡ get_or (take (suc n) ps) n last = is
    ∙ (ap (λ (m : ℕ). get_or rest m last) less ∙ ap (λ (r : List Piece). get_or r n last) whole) in
    let split : drop n ps ≡ last ∷ drop (suc n) ps = last-piece ps last n within last_is in
    let here = subst (λ (m : ℕ). Tells (after_piece last (part_matches (drop m ps))) text marks) len told in
    let told_before = subst (λ (q : List Piece). Tells (part_matches q) text marks) (sym split) here in (
      front ∙ ap (λ (m : ℕ). take m ps) (sym shorter),
      subst (λ (m : ℕ). Tells (part_matches (drop m ps)) text marks)
          (sym shorter) told_before,
    )

-- before the last piece
pub left-start : (ps rest : List Piece) (text : List ℕ) (marks : List Bool) → rest ≡ ps → Tells is_empty_text text marks
    → (rest ≡ take (length rest) ps) × Tells (part_matches (drop (length rest) ps)) text marks
unfolding part_matches
left-start ps rest text marks same told = (
  sym (take-length rest) ∙ ap (take (length rest)) same,
  subst (λ (q : List Piece). Tells (part_matches q) text marks)
      (sym (ap (drop (length rest)) (sym same) ∙ drop-length rest)) told,
)
