-- Going over the parts of a pattern or an address, one cut after the other.
use Rattle.std.proofs.Common.{◌≡◌, ℕ, zero, suc, ◌≢◌, get_or, add-one, is_none, is_some, not, Bor, ◌+◌, ◌<◌, ◌≤◌, Bool}
use Rattle.std.proofs.Common.{true, false, ◌&&◌, List, [], ◌∷◌, ◌++◌, length, drop, Option, Some, None, Result, Ok, Err}
use Rattle.std.proofs.Common.{IfOk, MatchResult, IsTrue, ◌↔◌, refl, sym, ap, ◌∙◌, arith, append-nil}
use Rattle.std.proofs.Common.{subst, if◌then◌else◌, ◌==◌, nat_le, count_by, cond}
use Rattle.std.specs.Option.{option_map, option_copied}
use Rattle.cue_pattern.specs.declared.piece.Piece.{Piece}
use Rattle.cue_pattern.specs.declared.fault.Fault.{Fault}
use Rattle.cue_pattern.specs.declared.fault.Fault.TheVariants.{BadPattern, Memory}
use Rattle.cue_pattern.specs.Grammar.{IsPattern}
use Rattle.cue_pattern.specs.Meaning.{separated_texts, Denotes}
use Rattle.cue_pattern.specs.Reading.{with_byte, cut, parts_of, pieces_after, pieces_of, pattern_at}
use Rattle.cue_pattern.specs.Matching.{part_matches, parts_match, matches}
use Rattle.cue_pattern.specs.Steps.{cut_left, left_len, CutsFirst}
use Rattle.cue_pattern.proofs.FrontLemmas.{with_front, front-more}
use Rattle.std.specs.declared.alloc.AllocError.{AllocError}
use Rattle.cue_pattern.specs.Short.{is_short}
use Rattle.cue_pattern.specs.Laws.{MatchesPartByPart}
use Rattle.std.specs.List.{list_all}
use Rattle.std.proofs.lemmas.Bool.Decides.{nat_tests}
use Rattle.std.proofs.lemmas.List.Sums.{sum_by-cons}
use Rattle.std.proofs.Math.Seq.{drop-cons}
use Rattle.std.proofs.Math.ListN.{drop_of_length-le}
use Rattle.cue_pattern.proofs.CutLemmas.{cut-is_cut, cut-from}
use Rattle.cue_pattern.proofs.MeaningLemmas.{matches-is, matches-again}
use Rattle.cue_pattern.proofs.PatternLemmas.{pattern_at-is, pattern_at-again}

-- ---- what stands behind the first slash

pub pattern_at-behind : (bytes rest : List ℕ) → parts_of bytes ≡ Some (cut 47 rest)
    → pattern_at bytes ≡ pieces_of (cut 47 rest)
unfolding pattern_at
pattern_at-behind bytes rest h = rw h refl

pub pattern_at-no_slash : (bytes : List ℕ) → parts_of bytes ≡ None → pattern_at bytes ≡ None
unfolding pattern_at
pattern_at-no_slash bytes h = rw h refl

pub matches-behind : (pattern : List (List Piece)) (address rest : List ℕ) → parts_of address ≡ Some (cut 47 rest)
    → matches pattern address ≡ parts_match pattern (cut 47 rest)
unfolding matches
matches-behind pattern address rest h = rw h refl

pub matches-no_slash : (pattern : List (List Piece)) (address : List ℕ) → parts_of address ≡ None
    → matches pattern address ≡ false
unfolding matches
matches-no_slash pattern address h = rw h refl

-- ---- reading part by part

pieces_of-none : (t : List ℕ) (ts : List (List ℕ)) → pieces_after 0 t ≡ None → pieces_of (t ∷ ts) ≡ None
unfolding pieces_of
pieces_of-none t ts h = rw h refl

pieces_of-some : (t : List ℕ) (ts : List (List ℕ)) (p : List Piece) → pieces_after 0 t ≡ Some p
    → pieces_of (t ∷ ts) ≡ option_map (λ ps. p ∷ ps) (pieces_of ts)
unfolding pieces_of
pieces_of-some t ts p h = rw h refl

pieces_of-end : pieces_of [] ≡ Some []
unfolding pieces_of
pieces_of-end = refl

-- a part that was counted was read
record Counted {A : Type 0} (read : Option (List A)) : Type 0 where
  pub pieces : List A
  pub read_is : read ≡ Some pieces

counted-read : {A : Type 0} (n : ℕ) (read : Option (List A)) → Some n ≡ option_map {U = ℕ} length read → Counted read
counted-read n None h = cc
counted-read n (Some ps) h = record { pieces = ps; read_is = refl }

-- and what was not counted was not
pub uncounted-read : {A : Type 0} (read : Option (List A)) → None ≡ option_map {U = ℕ} length read → read ≡ None
uncounted-read None h = refl
uncounted-read (Some ps) h = cc

pub parts-bad : (bytes before : List ℕ) (behind : Option (List ℕ)) → CutsFirst 47 bytes before behind
    → pieces_after 0 before ≡ None → pieces_of (cut 47 bytes) ≡ None
parts-bad bytes before behind h bad = rw h.parts (pieces_of-none before (cut_left 47 behind) bad)

pub parts-uncounted : (bytes before : List ℕ) (behind : Option (List ℕ)) → CutsFirst 47 bytes before behind
    → None ≡ option_map {U = ℕ} length (pieces_after 0 before) → pieces_of (cut 47 bytes) ≡ None
parts-uncounted bytes before behind h bad =
    parts-bad bytes before behind h (uncounted-read (pieces_after 0 before) bad)

count-more : (m : ℕ) (p : List Piece) (read : Option (List (List Piece)))
    → option_map {U = ℕ} (λ ps. m + length ps) (option_map (λ ps. p ∷ ps) read) ≡ option_map (λ ps. (m + 1) + length ps)
    read
count-more m p None = refl
count-more m p (Some ps) = ap (λ (n : ℕ). Some n) (let e : m + suc (length ps) ≡ (m + 1) + length ps = omega arith in e)

pub parts-counted : (m n : ℕ) (bytes before : List ℕ) (behind : Option (List ℕ)) → CutsFirst 47 bytes before behind
    → Some n ≡ option_map {U = ℕ} length (pieces_after 0 before)
    → option_map {U = ℕ} (λ ps. (m + 1) + length ps) (pieces_of (cut_left 47 behind)) ≡ option_map (λ ps. m + length ps)
    (pieces_of (cut 47 bytes))
parts-counted m n bytes before behind h counted =
    let c = counted-read n (pieces_after 0 before) counted in
    sym (ap (λ (ts : List (List ℕ)). option_map {U = ℕ} (λ ps. m + length ps) (pieces_of ts)) h.parts
    ∙ (ap (option_map {U = ℕ} (λ ps. m + length ps)) (pieces_of-some before (cut_left 47 behind) c.pieces c.read_is)
    ∙ count-more m c.pieces (pieces_of (cut_left 47 behind))))

pub parts-counted_all : (m : ℕ) → Some m ≡ option_map {U = ℕ} (λ ps. m + length ps) (pieces_of [])
parts-counted_all m = rw pieces_of-end (ap (λ (n : ℕ). Some n) (let e : m ≡ m + 0 = omega arith in e))

pub parts-uncounted_yet : (read : Option (List (List Piece)))
    → option_map {U = ℕ} (λ ps. 0 + length ps) read ≡ option_map length read
parts-uncounted_yet None = refl
parts-uncounted_yet (Some ps) = ap (λ (n : ℕ). Some n) (let e : 0 + length ps ≡ length ps = omega arith in e)

pub parts-fronted : (front : List (List Piece)) (p : List Piece) (bytes before : List ℕ) (behind : Option (List ℕ))
    → CutsFirst 47 bytes before behind → pieces_after 0 before ≡ Some p
    → with_front (front ++ p ∷ []) (pieces_of (cut_left 47 behind)) ≡ with_front front (pieces_of (cut 47 bytes))
parts-fronted front p bytes before behind h read =
    sym (ap (λ (ts : List (List ℕ)). with_front front (pieces_of ts)) h.parts
    ∙ (ap (with_front front) (pieces_of-some before (cut_left 47 behind) p read)
    ∙ front-more front p (pieces_of (cut_left 47 behind))))

pub parts-fronted_all : (front : List (List Piece)) → with_front front (pieces_of []) ≡ Some front
parts-fronted_all front = rw pieces_of-end (ap (λ (x : List (List Piece)). Some x) (append-nil front))

pub parts-unread_yet : (read : Option (List (List Piece))) → with_front [] read ≡ read
parts-unread_yet None = refl
parts-unread_yet (Some ps) = refl

-- each cut leaves less
pub cut-shorter : (bytes before : List ℕ) (behind : Option (List ℕ)) → CutsFirst 47 bytes before behind
    → left_len behind ≤ length bytes
cut-shorter bytes before None h = omega arith
cut-shorter bytes before (Some rest) h = omega (arith, h.rest)

pub before-shorter : (bytes before : List ℕ) (behind : Option (List ℕ)) → CutsFirst 47 bytes before behind
    → length before ≤ length bytes
before-shorter bytes before None h = let e = (cut-is_cut 47 bytes).1 ∙ ap (separated_texts 47) h.parts in
    omega (arith, ap length e)
before-shorter bytes before (Some rest) h = omega (arith, h.rest)

-- ---- matching

parts_match-cons : (p : List Piece) (ps : List (List Piece)) (t : List ℕ) (ts : List (List ℕ))
    → parts_match (p ∷ ps) (t ∷ ts) ≡ (part_matches p t && parts_match ps ts)
unfolding parts_match
parts_match-cons p ps t ts = refl

-- parts are left, and no text
pub parts_match-no_text : (ps : List (List Piece)) (i : ℕ) → i < length ps → parts_match (drop i ps) [] ≡ false
unfolding parts_match
parts_match-no_text [] i l = absurd (omega arith)
parts_match-no_text (p ∷ ps) zero l = refl
parts_match-no_text (p ∷ ps) (suc i) l = parts_match-no_text ps i (omega arith)

-- one part, and one text
pub parts_match-next : (ps : List (List Piece)) (i : ℕ) (p : List Piece) (bytes before : List ℕ)
    (behind : Option (List ℕ)) → i < length ps → p ≡ get_or ps i p → CutsFirst 47 bytes before behind
    → parts_match (drop i ps) (cut 47 bytes)
    ≡ (part_matches p before && parts_match (drop (i + 1) ps) (cut_left 47 behind))
parts_match-next ps i p bytes before behind l is h =
    let here : drop i ps ≡ p ∷ drop (suc i) ps = drop-cons ps i p l
    ∙ ap (λ (x : List Piece). x ∷ drop (suc i) ps) (sym is) in
    rw (add-one, h.parts, here) (parts_match-cons p (drop (suc i) ps) before (cut_left 47 behind))

-- no part is left
pub parts_match-end : (ps : List (List Piece)) (i : ℕ) (left : Option (List ℕ)) → length ps ≤ i
    → is_none left ≡ parts_match (drop i ps) (cut_left 47 left)
unfolding parts_match
parts_match-end ps i None l = rw (drop_of_length-le ps l) refl
parts_match-end ps i (Some bytes) l = rw (drop_of_length-le ps l) (some_text (cut 47 bytes) (cut-is_cut 47 bytes).0)
  where
    some_text : (ts : List (List ℕ)) → ts ≢ [] → false ≡ parts_match [] ts
    some_text [] h = absurd (h refl)
    some_text (t ∷ ts) h = refl

-- what the test answers is what the pattern denotes
pub denotes-from : (pattern : List (List Piece)) (address : List ℕ) (b : Bool) → b ≡ matches pattern address
    → IsTrue b ↔ Denotes pattern address
denotes-from pattern address b h = (
  λ e. matches-is pattern address (sym h ∙ e),
  λ d. h
      ∙ matches-again pattern address d,
)

pub none_left : (left : Option (Bor (List ℕ))) (b : Bool) → is_some left ≡ not b → b ≡ is_none (option_copied left)
none_left None true h = refl
none_left None false h = cc
none_left (Some rest) true h = cc
none_left (Some rest) false h = refl

-- ---- what reading answers

-- the pieces or nothing, without where they lie in memory
pub read-only : (read : Option (List (List Piece))) (p : List (List Piece)) (r : Result (List (List Piece)) Fault)
    → IfOk r (λ q. read ≡ Some q) → (r ≡ Err BadPattern → read ≡ None) → read ≡ Some p
    → MatchResult r (λ q. q ≡ p) (λ e. e ≡ Memory)
read-only read p (Ok q) found bad is = (let e : Some q ≡ Some p = sym found ∙ is in cc)
read-only read p (Err BadPattern) found bad is = (let e = bad refl in cc)
read-only read p (Err Memory) found bad is = refl

pub found-if : (bytes : List ℕ) (r : Result (List (List Piece)) Fault) → IfOk r (λ q. pattern_at bytes ≡ Some q)
    → IfOk r (λ q. IsPattern bytes q)
found-if bytes (Ok q) h = pattern_at-is bytes q h
found-if bytes (Err e) h = h

pub no-pattern : (bytes : List ℕ) → pattern_at bytes ≡ None → (p : List (List Piece)) → IsPattern bytes p → ⊥
no-pattern bytes none p h = let read = pattern_at-again bytes p h in cc

pub some-pattern : (bytes : List ℕ) (n : ℕ) → Some n ≡ option_map {U = ℕ} length (pattern_at bytes)
    → ((p : List (List Piece)) → IsPattern bytes p → ⊥) → ⊥
some-pattern bytes n counted none =
    let c = counted-read n (pattern_at bytes) counted in
    none c.pieces (pattern_at-is bytes c.pieces c.read_is)

-- ---- as many texts as parts

pub parts_match-uneven : (ps : List (List Piece)) (ts : List (List ℕ)) → length ts ≢ length ps
    → parts_match ps ts ≡ false
unfolding parts_match
parts_match-uneven [] [] ne = absurd (ne refl)
parts_match-uneven [] (t ∷ ts) ne = refl
parts_match-uneven (p ∷ ps) [] ne = refl
parts_match-uneven (p ∷ ps) (t ∷ ts) ne =
    rw (parts_match-uneven ps ts (λ e. ne (ap suc e))) (and_false (part_matches p t))
  where
    and_false : (b : Bool) → (b && false) ≡ false
    and_false true = refl
    and_false false = refl

pub matches-uneven : (pattern : List (List Piece)) (address rest : List ℕ) → parts_of address ≡ Some (cut 47 rest)
    → length (cut 47 rest) ≢ length pattern → matches pattern address ≡ false
matches-uneven pattern address rest h ne = matches-behind pattern address rest h
    ∙ parts_match-uneven pattern (cut 47 rest) ne

-- a text for each slash, and one more
pub length-cut : (c : ℕ) (bs : List ℕ) → length (cut c bs) ≡ count_by (λ b. b == c) bs + 1
length-cut c [] = refl
length-cut c (b ∷ bs) = at (b == c) (length-cut c bs)
    ∙ ap (λ n. n + 1) (sym (sum_by-cons (λ x. cond (x == c) 1 0) b bs))
  where
    longer : (ts : List (List ℕ)) → 1 ≤ length ts → length (with_byte b ts) ≡ length ts
    longer [] h = absurd (omega arith)
    longer (t ∷ ts) h = refl

    at : (t : Bool) → length (cut c bs) ≡ count_by (λ x. x == c) bs + 1
        → length (if t then [] ∷ cut c bs else with_byte b (cut c bs)) ≡ cond t 1 0 + count_by (λ x. x == c) bs + 1
    at true k = let e : suc (length (cut c bs)) ≡ 1 + count_by (λ x. x == c) bs + 1 = omega (arith, k) in e
    at false k = let e : length (cut c bs) ≡ 0 + count_by (λ x. x == c) bs + 1 = omega (arith, k) in
        longer (cut c bs) (omega (arith, k)) ∙ e

-- ---- short texts

both : (a b : Bool) → IsTrue (a && b) → IsTrue a × IsTrue b
both true b h = (refl, h)
both false b h = cc

pub short-parts : (bytes before : List ℕ) (behind : Option (List ℕ)) → CutsFirst 47 bytes before behind
    → IsTrue (list_all is_short (cut 47 bytes)) → (length before ≤ 64) × IsTrue (list_all is_short (cut_left 47 behind))
short-parts bytes before behind h all =
    let P : List (List ℕ) → Type 0 = λ ts. IsTrue (list_all is_short ts) in
    let k = both (is_short before) (list_all is_short (cut_left 47 behind)) (subst P h.parts all) in
    (few (length before) k.0, k.1)
  where
    few : (n : ℕ) → IsTrue (nat_le n 64) → n ≤ 64
    few n t = grind (arith, nat_tests)

-- ---- what the whole match answers

pub exact-behind : (pattern : List (List Piece)) (address rest : List ℕ) (r : Result Bool AllocError)
    → parts_of address ≡ Some (cut 47 rest) → IfOk r (λ b. b ≡ parts_match pattern (cut 47 rest))
    → IfOk r (λ b. b ≡ matches pattern address)
exact-behind pattern address rest (Ok b) h e = e ∙ sym (matches-behind pattern address rest h)
exact-behind pattern address rest (Err e) h k = k

pub denotes-behind : (pattern : List (List Piece)) (address rest : List ℕ) (r : Result Bool AllocError)
    → parts_of address ≡ Some (cut 47 rest) → IfOk r (λ b. b ≡ parts_match pattern (cut 47 rest))
    → IfOk r (λ b. IsTrue b ↔ Denotes pattern address)
denotes-behind pattern address rest (Ok b) h e =
    denotes-from pattern address b (e ∙ sym (matches-behind pattern address rest h))
denotes-behind pattern address rest (Err e) h k = k

-- ---- texts put together

pub matches-part_by_part : MatchesPartByPart
matches-part_by_part pattern texts some none =
    let bytes : List ℕ = separated_texts 47 texts in
    matches-behind pattern (47 ∷ bytes) bytes refl
    ∙ ap (parts_match pattern) (cut-from 47 bytes texts (some, refl, none))
