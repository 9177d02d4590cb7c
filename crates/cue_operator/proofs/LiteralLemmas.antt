-- An address without wildcards, read as a pattern.
use Rattle.std.proofs.Common.{◌≡◌, ℕ, Bool, true, false, not, ◌&&◌, List, [], ◌∷◌, None, Some, map, nat_eq}
use Rattle.std.proofs.Common.{if◌then◌else◌, refl, sym, ap, ◌∙◌, arith}
use Rattle.std.specs.Prelude.{◌==◌, IsTrue, option_and_then, is_some}
use Rattle.std.specs.List.{list_all}
use Rattle.std.specs.Cmp.Lexicographic.{pointwise}
use Rattle.std.proofs.lemmas.Bool.Decides.{nat_tests}
use Rattle.cue_show.specs.Number.{same_text}
use Rattle.cue_pattern.specs.declared.piece.Piece.{Piece}
use Rattle.cue_pattern.specs.declared.piece.Piece.TheVariants.{Plain}
use Rattle.cue_pattern.specs.Reading.{with_byte, cut, parts_of, piece_at, pieces_after, pieces_of, pattern_at}
use Rattle.cue_pattern.specs.Matching.{part_matches, parts_match, matches_parts, matches}
use Rattle.cue_operator.specs.Commands.{LiteralMatchesItself}
use Rattle.cue_pattern.specs.Literal.{is_literal_byte, is_literal}
use Rattle.cue_show.proofs.TestLemmas.{both, join, not_so}

abbrev each_literal : List (List ℕ) → Bool
each_literal ts = list_all is_literal ts

-- ---- reading

piece-literal : (b : ℕ) (bs : List ℕ) → IsTrue (is_literal_byte b) → piece_at b bs ≡ Some (Plain b, 0)
unfolding piece_at
piece-literal b bs h =
    let p = both (not (b == 63)) _ h in
    let q = both (not (b == 42)) _ p.1 in
    let r = both (not (b == 91)) _ q.1 in
    let one = not_so (b == 63) p.0 in
    let two = not_so (b == 42) q.0 in
    let three = not_so (b == 91) r.0 in
    let four = not_so (b == 123) r.1 in
    rw (one, two, three, four) refl

pieces-literal : (t : List ℕ) → IsTrue (is_literal t) → pieces_after 0 t ≡ Some (map Plain t)
unfolding pieces_after
pieces-literal [] h = refl
pieces-literal (b ∷ t) h =
    let p = both (is_literal_byte b) (is_literal t) h in
    rw (piece-literal b t p.0, pieces-literal t p.1) refl

all-pieces-literal : (ts : List (List ℕ)) → IsTrue (each_literal ts) → pieces_of ts ≡ Some (map (map Plain) ts)
unfolding pieces_of
all-pieces-literal [] h = refl
all-pieces-literal (t ∷ ts) h =
    let p = both (is_literal t) (each_literal ts) h in
    rw (pieces-literal t p.0, all-pieces-literal ts p.1) refl

with_byte-literal : (b : ℕ) (ts : List (List ℕ)) → IsTrue (is_literal_byte b) → IsTrue (each_literal ts)
    → IsTrue (each_literal (with_byte b ts))
with_byte-literal b [] h k = join (is_literal_byte b && true) true (join (is_literal_byte b) true h refl) refl
with_byte-literal b (t ∷ ts) h k = let p = both (is_literal t) (each_literal ts) k in
    join (is_literal_byte b && is_literal t) (each_literal ts) (join (is_literal_byte b) (is_literal t) h p.0) p.1

cut-literal : (c : ℕ) (bs : List ℕ) → IsTrue (is_literal bs) → IsTrue (each_literal (cut c bs))
cut-literal c [] h = refl
cut-literal c (b ∷ bs) h = let p = both (is_literal_byte b) (is_literal bs) h in at (b == c) (cut-literal c bs p.1) p.0
  where
    at : (t : Bool) → IsTrue (each_literal (cut c bs)) → IsTrue (is_literal_byte b)
        → IsTrue (each_literal (if t then [] ∷ cut c bs else with_byte b (cut c bs)))
    at true k g = k
    at false k g = with_byte-literal b (cut c bs) g k

-- ---- matching

part-literal : (t u : List ℕ) → part_matches (map Plain t) u ≡ same_text t u
unfolding part_matches
part-literal [] [] = refl
part-literal [] (b ∷ u) = refl
part-literal (c ∷ t) [] = refl
part-literal (c ∷ t) (b ∷ u) = rw (part-literal t u, swapped b c) refl
  where
    swapped : (m n : ℕ) → nat_eq m n ≡ nat_eq n m
    swapped m n = grind (arith, nat_tests)

abbrev same_parts : List (List ℕ) → List (List ℕ) → Bool
same_parts = pointwise same_text

parts-literal : (ts us : List (List ℕ)) → parts_match (map (map Plain) ts) us ≡ same_parts ts us
unfolding parts_match
parts-literal [] [] = refl
parts-literal [] (u ∷ us) = refl
parts-literal (t ∷ ts) [] = refl
parts-literal (t ∷ ts) (u ∷ us) = rw (part-literal t u, parts-literal ts us) refl

-- ---- cutting loses nothing

-- there is a first part
abbrev HasFront : List (List ℕ) → Type 0
HasFront ts = (front : List ℕ) × (others : List (List ℕ)) × (ts ≡ front ∷ others)

front_of : (c : ℕ) (bs : List ℕ) → HasFront (cut c bs)
front_of c [] = ([], [], refl)
front_of c (b ∷ bs) = at (b == c) (front_of c bs)
  where
    at : (t : Bool) → HasFront (cut c bs) → HasFront (if t then [] ∷ cut c bs else with_byte b (cut c bs))
    at true k = ([], cut c bs, refl)
    at false k = (b ∷ k.0, k.1, rw k.2 refl)

cut-same : (c : ℕ) (xs ys : List ℕ) → same_parts (cut c xs) (cut c ys) ≡ same_text xs ys
cut-same c [] [] = refl
cut-same c [] (y ∷ ys) = at (y == c) (front_of c ys)
  where
    at : (t : Bool) → HasFront (cut c ys) → same_parts ([] ∷ []) (if t then [] ∷ cut c ys else with_byte y (cut c ys))
        ≡ false
    at true k = rw k.2 refl
    at false k = rw k.2 refl
cut-same c (x ∷ xs) [] = at (x == c) (front_of c xs)
  where
    at : (t : Bool) → HasFront (cut c xs) → same_parts (if t then [] ∷ cut c xs else with_byte x (cut c xs)) ([] ∷ [])
        ≡ false
    at true k = rw k.2 refl
    at false k = rw k.2 refl
cut-same c (x ∷ xs) (y ∷ ys) = at (x == c) (y == c) refl refl (front_of c xs) (front_of c ys) (cut-same c xs ys)
  where
    at : (t u : Bool) → (x == c) ≡ t → (y == c) ≡ u → HasFront (cut c xs) → HasFront (cut c ys)
        → same_parts (cut c xs) (cut c ys) ≡ same_text xs ys
        → same_parts (if t then [] ∷ cut c xs else with_byte x (cut c xs))
        (if u then [] ∷ cut c ys else with_byte y (cut c ys)) ≡ (nat_eq x y && same_text xs ys)
    at true true e f k l r = let g : nat_eq x y ≡ true = grind (arith, nat_tests) in rw (g, r) refl
    at true false e f k l r = let g : nat_eq x y ≡ false = grind (arith, nat_tests) in rw (g, l.2) refl
    at false true e f k l r = let g : nat_eq x y ≡ false = grind (arith, nat_tests) in rw (g, k.2) refl
    at false false e f k l r = rw (k.2, l.2) (assoc (nat_eq x y) (same_text k.0 l.0) (same_parts k.1 l.1)
        ∙ ap (λ b. nat_eq x y && b) (rw (k.2, l.2) at r))
      where
        assoc : (a b d : Bool) → ((a && b) && d) ≡ (a && (b && d))
        assoc true b d = refl
        assoc false b d = refl

-- ---- together

-- what is read of a literal address
read-literal : (b : ℕ) (bs : List ℕ) → IsTrue (is_literal (b ∷ bs))
    → pattern_at (b ∷ bs) ≡ (if b == 47 then Some (map (map Plain) (cut 47 bs)) else None)
unfolding pattern_at
read-literal b bs h = at (b == 47)
  where
    at : (t : Bool) → option_and_then pieces_of (if t then Some (cut 47 bs) else None)
        ≡ (if t then Some (map (map Plain) (cut 47 bs)) else None)
    at true = all-pieces-literal (cut 47 bs) (cut-literal 47 bs (both (is_literal_byte b) (is_literal bs) h).1)
    at false = refl

-- an address without wildcards is a pattern
pub literal-pattern : (a : List ℕ) → IsTrue (is_literal a) → is_some (parts_of a) ≡ true → (p : List (List Piece))
    × (pattern_at a ≡ Some p)
literal-pattern [] h s = cc
literal-pattern (b ∷ bs) h s = at (b == 47) s (read-literal b bs h)
  where
    at : (t : Bool) → is_some (if t then Some (cut 47 bs) else None) ≡ true
        → pattern_at (b ∷ bs) ≡ (if t then Some (map (map Plain) (cut 47 bs)) else None) → (p : List (List Piece))
        × (pattern_at (b ∷ bs) ≡ Some p)
    at true g e = (map (map Plain) (cut 47 bs), e)
    at false g e = cc

same_some : (p q : List (List Piece)) → Some p ≡ Some q → p ≡ q
same_some p q e = cc

matches-literal : (b : ℕ) (bs other : List ℕ) → (b == 47) ≡ true
    → matches (map (map Plain) (cut 47 bs)) other ≡ same_text (b ∷ bs) other
unfolding matches
matches-literal b bs [] e = refl
matches-literal b bs (d ∷ ds) e = at (d == 47) refl
  where
    at : (t : Bool) → (d == 47) ≡ t → matches_parts (map (map Plain) (cut 47 bs)) (if t then Some (cut 47 ds) else None)
        ≡ (nat_eq b d && same_text bs ds)
    at true f = let g : nat_eq b d ≡ true = grind (arith, nat_tests) in
        rw g (parts-literal (cut 47 bs) (cut 47 ds) ∙ cut-same 47 bs ds)
    at false f = let g : nat_eq b d ≡ false = grind (arith, nat_tests) in rw g refl

none-empty : (other : List ℕ) (pattern : List (List Piece)) → pattern_at [] ≡ Some pattern
    → matches pattern other ≡ same_text [] other
unfolding pattern_at
none-empty other pattern k = cc

pub literal-matches-itself : LiteralMatchesItself
literal-matches-itself [] other pattern h e = none-empty other pattern e
literal-matches-itself (b ∷ bs) other pattern h e = at (b == 47) refl (sym (read-literal b bs h) ∙ e)
  where
    at : (t : Bool) → (b == 47) ≡ t → (if t then Some (map (map Plain) (cut 47 bs)) else None) ≡ Some pattern
        → matches pattern other ≡ same_text (b ∷ bs) other
    at true f k = rw (← same_some _ pattern k) (matches-literal b bs other f)
    at false f k = cc
