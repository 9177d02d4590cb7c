-- A request that comes in pieces.
use Rattle.std.proofs.Common.{◌≡◌, ◌∙◌, refl, sym, ap, arith, ℕ, ◌+◌, ◌-◌, zero, suc, List, [], ◌∷◌, ◌++◌, length, take}
use Rattle.std.proofs.lemmas.List.{append-nil, append_assoc, length-append}
use Rattle.cue_connection.specs.Connecting.{Came, came_none, kept_of, with_piece}
use Rattle.cue_connection.specs.Laws.{AnyPieces, joined, with_pieces}
use Rattle.cue_connection.specs.Scanning.{after_all}
use Rattle.cue_connection.specs.declared.connection.TheConstants.{MAX_INPUT}
use Rattle.cue_connection.specs.declared.scanning.Scan.{Scan}
use Rattle.cue_connection.proofs.ScanningLemmas.{all-append}

-- the first so many of two lists
take-two : (n : ℕ) (a b : List ℕ) → take n (a ++ b) ≡ take n a ++ take (n - length (take n a)) b
take-two zero a b = refl
take-two (suc n) [] b =
    let e : suc n ≡ suc n - 0 = omega arith in
    ap (λ k. take k b) e
take-two (suc n) (x ∷ a) b =
    let e : n - length (take n a) ≡ suc n - suc (length (take n a)) = omega arith in
    ap (λ l. x ∷ l) (take-two n a b ∙ ap (λ k. take n a ++ take k b) e)

take-none : (n : ℕ) → (let none : List ℕ = [] in take n none ≡ none)
take-none zero = refl
take-none (suc n) = refl

abbrev came : List ℕ → Scan → Came
came bytes s = record { bytes = bytes; scan = s }

same-came : (a b : List ℕ) (s t : Scan) → a ≡ b → s ≡ t → came a s ≡ came b t
same-came a b s t e f = ap (λ x. came x s) e ∙ ap (λ x. came b x) f

-- two pieces are the same as both in one
two-pieces : (c : Came) (a b : List ℕ) → with_piece (with_piece c a) b ≡ with_piece c (a ++ b)
two-pieces c a b =
    let first : List ℕ = kept_of (length c.bytes) a in
    let long : length (c.bytes ++ first) ≡ length c.bytes + length first = length-append c.bytes first in
    let second : List ℕ = kept_of (length (c.bytes ++ first)) b in
    let left : MAX_INPUT - length (c.bytes ++ first) ≡ MAX_INPUT - length c.bytes - length first = omega arith in
    let both : kept_of (length c.bytes) (a ++ b) ≡ first ++ second =
    take-two (MAX_INPUT - length c.bytes) a b ∙ ap (λ n. first ++ take n b) (sym left) in
    same-came ((c.bytes ++ first) ++ second) (c.bytes ++ kept_of (length c.bytes) (a ++ b))
    (after_all (after_all c.scan (length c.bytes) first) (length (c.bytes ++ first)) second)
    (after_all c.scan (length c.bytes) (kept_of (length c.bytes) (a ++ b)))
    (append_assoc c.bytes first second ∙ ap (λ l. c.bytes ++ l) (sym both))
    (ap (λ n. after_all (after_all c.scan (length c.bytes) first) n second) long
    ∙ sym (all-append c.scan (length c.bytes) first second)
    ∙ ap (λ l. after_all c.scan (length c.bytes) l) (sym both))

-- no bytes are no piece
no-piece : (c : Came) → c ≡ with_piece c []
no-piece c =
    let none : kept_of (length c.bytes) [] ≡ [] = take-none (MAX_INPUT - length c.bytes) in
    same-came c.bytes (c.bytes ++ kept_of (length c.bytes) []) c.scan
    (after_all c.scan (length c.bytes) (kept_of (length c.bytes) []))
    (sym (append-nil c.bytes) ∙ ap (λ l. c.bytes ++ l) (sym none))
    (ap (λ l. after_all c.scan (length c.bytes) l) (sym none))

all-pieces : (c : Came) (pieces : List (List ℕ)) → with_pieces c pieces ≡ with_piece c (joined pieces)
all-pieces c [] = no-piece c
all-pieces c (piece ∷ more) =
    all-pieces (with_piece c piece) more ∙ two-pieces c piece (joined more)

pub any-pieces : AnyPieces
any-pieces pieces = all-pieces came_none pieces
