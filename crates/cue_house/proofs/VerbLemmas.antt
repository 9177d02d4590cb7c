-- A pattern whose last part is another verb does not match the go of a cue.
use Rattle.std.proofs.Common.{◌≡◌, ℕ, Bool, true, false, List, [], ◌∷◌, ◌++◌, Option, None, Some, map, ◌==◌}
use Rattle.std.proofs.Common.{if◌then◌else◌, refl, sym, ap, ◌∙◌, true≢false}
use Rattle.std.specs.Prelude.{codes, option_and_then}
use Rattle.std.specs.Option.{option_map}
use Rattle.cue_show.proofs.TestLemmas.{both}
use Rattle.cue_pattern.specs.declared.piece.Piece.{Piece}
use Rattle.cue_pattern.specs.declared.piece.Piece.TheVariants.{Plain}
use Rattle.cue_pattern.specs.Reading.{with_byte, cut, piece_at, pieces_after, pieces_of, pattern_at}
use Rattle.cue_pattern.specs.Matching.{part_matches, parts_match, matches}
use Rattle.cue_pattern.proofs.CutLemmas.{cut-here}
use Rattle.cue_pattern.proofs.PartsLemmas.{matches-behind, pattern_at-behind}
use Rattle.cue_operator.specs.declared.method.CueVerb.TheVariants.{Go}
use Rattle.cue_operator.specs.declared.method.Method.TheVariants.{OfCue}
use Rattle.cue_operator.specs.Methods.{address_of}

-- ---- the last part of a text

-- there is a first part
abbrev HasFront : List (List ℕ) → Type 0
HasFront ts = (front : List ℕ) × (others : List (List ℕ)) × (ts ≡ front ∷ others)

front_of : (c : ℕ) (bs : List ℕ) → HasFront (cut c bs)
front_of c [] = ([], [], refl)
front_of c (b ∷ bs) = at (b == c) (front_of c bs)
  where
    at : (t : Bool) → HasFront (cut c bs) → HasFront (if t then [] ∷ cut c bs else with_byte b (cut c bs))
    at true k = ([], cut c bs, refl)
    at false k = (b ∷ k.0, k.1, rw k.2 refl)

with_byte_end : (b : ℕ) (ts : List (List ℕ)) (v : List ℕ) → HasFront ts
    → with_byte b (ts ++ v ∷ []) ≡ with_byte b ts ++ v ∷ []
with_byte_end b ts v k = rw k.2 refl

pub cut_end : (c : ℕ) (xs v : List ℕ) → cut c v ≡ v ∷ [] → cut c (xs ++ c ∷ v) ≡ cut c xs ++ v ∷ []
cut_end c [] v h = cut-here c c v refl ∙ ap (λ (ts : List (List ℕ)). [] ∷ ts) h
cut_end c (b ∷ xs) v h = at (b == c) (cut_end c xs v h)
  where
    at : (t : Bool) → cut c (xs ++ c ∷ v) ≡ cut c xs ++ v ∷ []
        → (if t then [] ∷ cut c (xs ++ c ∷ v) else with_byte b (cut c (xs ++ c ∷ v)))
        ≡ (if t then [] ∷ cut c xs else with_byte b (cut c xs)) ++ v ∷ []
    at true e = ap (λ (ts : List (List ℕ)). [] ∷ ts) e
    at false e = ap (with_byte b) e ∙ with_byte_end b (cut c xs) v (front_of c xs)

-- ---- the last part of a pattern

-- the pattern ends with these pieces
abbrev EndsWith : List Piece → List (List Piece) → Type 0
EndsWith w p = (ps : List (List Piece)) × (p ≡ ps ++ w ∷ [])

one_more : (x w : List Piece) (o : Option (List (List Piece))) (p : List (List Piece))
    → ((r : List (List Piece)) → o ≡ Some r → EndsWith w r) → option_map (λ ps. x ∷ ps) o ≡ Some p → EndsWith w p
one_more x w None p f e = absurd cc
one_more x w (Some r) p f e =
    let k : EndsWith w r = f r refl in
    let is : x ∷ r ≡ p = cc in
    (x ∷ k.0, sym is ∙ ap (λ (ps : List (List Piece)). x ∷ ps) k.1)

pieces_end : (ts : List (List ℕ)) (v : List ℕ) (w : List Piece) → pieces_after 0 v ≡ Some w
    → (p : List (List Piece)) → pieces_of (ts ++ v ∷ []) ≡ Some p → EndsWith w p
unfolding pieces_of
pieces_end [] v w h p e =
    let k : Some (w ∷ []) ≡ Some p = rw h at e in
    let is : w ∷ [] ≡ p = cc in
    ([], sym is)
pieces_end (t ∷ ts) v w h p e = by (λ r is. pieces_end ts v w h r is) (pieces_after 0 t) e
  where
    by : ((r : List (List Piece)) → pieces_of (ts ++ v ∷ []) ≡ Some r → EndsWith w r) → (o : Option (List Piece))
        → option_and_then (λ (x : List Piece). option_map (λ ps. x ∷ ps) (pieces_of (ts ++ v ∷ []))) o ≡ Some p
        → EndsWith w p
    by f None k = absurd cc
    by f (Some x) k = one_more x w (pieces_of (ts ++ v ∷ [])) p f k

-- ---- matching

no_more_parts : (ts : List (List ℕ)) (u : List ℕ) → parts_match [] (ts ++ u ∷ []) ≡ false
unfolding parts_match
no_more_parts [] u = refl
no_more_parts (t ∷ ts) u = refl

no_more_texts : (ps : List (List Piece)) (w : List Piece) → parts_match (ps ++ w ∷ []) [] ≡ false
unfolding parts_match
no_more_texts [] w = refl
no_more_texts (p ∷ ps) w = refl

-- the last part matches the last text
last_matches : (ps : List (List Piece)) (w : List Piece) (ts : List (List ℕ)) (u : List ℕ)
    → parts_match (ps ++ w ∷ []) (ts ++ u ∷ []) ≡ true → part_matches w u ≡ true
unfolding parts_match
last_matches [] w [] u h = (both (part_matches w u) true h).0
last_matches [] w (t ∷ ts) u h =
    absurd (true≢false (sym (both (part_matches w t) (parts_match [] (ts ++ u ∷ [])) h).1 ∙ no_more_parts ts u))
last_matches (p ∷ ps) w [] u h =
    absurd (true≢false (sym (both (part_matches p u) (parts_match (ps ++ w ∷ []) []) h).1 ∙ no_more_texts ps w))
last_matches (p ∷ ps) w (t ∷ ts) u h =
    last_matches ps w ts u (both (part_matches p t) (parts_match (ps ++ w ∷ []) (ts ++ u ∷ [])) h).1

-- ---- together

-- a pattern that ends so does not match the go of a cue, if its end does not match the verb
pub no_go : (rest v : List ℕ) (w : List Piece) (ts : List (List ℕ)) → cut 47 rest ≡ ts ++ v ∷ []
    → pieces_after 0 v ≡ Some w → part_matches w (codes "go") ≡ false → (p : List (List Piece)) (cue : List ℕ)
    → pattern_at (47 ∷ rest) ≡ Some p → matches p (address_of (OfCue cue Go)) ≡ true → ⊥
no_go rest v w ts ends pieces other p cue read matching =
    let front : List ℕ = 99 ∷ 117 ∷ 101 ∷ 47 ∷ cue in
    let read_ends : pieces_of (ts ++ v ∷ []) ≡ Some p =
    ap pieces_of (sym ends) ∙ sym (pattern_at-behind (47 ∷ rest) rest refl) ∙ read in
    let k : EndsWith w p = pieces_end ts v w pieces p read_ends in
    let parts : parts_match p (cut 47 front ++ codes "go" ∷ []) ≡ true =
    ap (parts_match p) (sym (cut_end 47 front (codes "go") refl))
    ∙ sym (matches-behind p (address_of (OfCue cue Go)) (front ++ 47 ∷ codes "go") refl) ∙ matching in
    true≢false (sym (last_matches k.0 w (cut 47 front) (codes "go")
    (ap (λ (q : List (List Piece)). parts_match q (cut 47 front ++ codes "go" ∷ [])) (sym k.1) ∙ parts)) ∙ other)

-- the same of an address that ends with a slash and this verb
pub no_go_at : (front v : List ℕ) (w : List Piece) → cut 47 v ≡ v ∷ [] → pieces_after 0 v ≡ Some w
    → part_matches w (codes "go") ≡ false → (p : List (List Piece)) (cue : List ℕ)
    → pattern_at (47 ∷ front ++ 47 ∷ v) ≡ Some p → matches p (address_of (OfCue cue Go)) ≡ true → ⊥
no_go_at front v w whole pieces other p cue read matching =
    no_go (front ++ 47 ∷ v) v w (cut 47 front) (cut_end 47 front v whole) pieces other p cue read matching

-- ---- the verbs

pub standby_pieces : pieces_after 0 (codes "standby") ≡ Some (map Plain (codes "standby"))
unfolding pieces_after piece_at
standby_pieces = refl

pub cancel_pieces : pieces_after 0 (codes "cancel") ≡ Some (map Plain (codes "cancel"))
unfolding pieces_after piece_at
cancel_pieces = refl

pub goto_pieces : pieces_after 0 (codes "goto") ≡ Some (map Plain (codes "goto"))
unfolding pieces_after piece_at
goto_pieces = refl

pub remove_pieces : pieces_after 0 (codes "remove") ≡ Some (map Plain (codes "remove"))
unfolding pieces_after piece_at
remove_pieces = refl

pub release_pieces : pieces_after 0 (codes "release") ≡ Some (map Plain (codes "release"))
unfolding pieces_after piece_at
release_pieces = refl

pub status_pieces : pieces_after 0 (codes "status") ≡ Some (map Plain (codes "status"))
unfolding pieces_after piece_at
status_pieces = refl

pub standby_is_other : part_matches (map Plain (codes "standby")) (codes "go") ≡ false
unfolding part_matches
standby_is_other = refl

pub cancel_is_other : part_matches (map Plain (codes "cancel")) (codes "go") ≡ false
unfolding part_matches
cancel_is_other = refl

pub goto_is_other : part_matches (map Plain (codes "goto")) (codes "go") ≡ false
unfolding part_matches
goto_is_other = refl

pub remove_is_other : part_matches (map Plain (codes "remove")) (codes "go") ≡ false
unfolding part_matches
remove_is_other = refl

pub release_is_other : part_matches (map Plain (codes "release")) (codes "go") ≡ false
unfolding part_matches
release_is_other = refl

pub status_is_other : part_matches (map Plain (codes "status")) (codes "go") ≡ false
unfolding part_matches
status_is_other = refl
