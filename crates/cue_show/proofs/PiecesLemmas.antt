-- The pieces of a text round its points, put together again.
use Rattle.std.proofs.Common.{◌≡◌, ℕ, ◌<◌, ◌≤◌, Bool, true, false, ◌==◌, List, [], ◌∷◌, ◌++◌, length, nat_le, IsTrue}
use Rattle.std.proofs.Common.{refl, sym, ap, ◌∙◌, arith}
use Rattle.std.specs.Char.{is_ascii_digit}
use Rattle.std.specs.List.{list_all, join_with_byte}
use Rattle.std.proofs.lemmas.Bool.{and_parts, and_from, leb-true, le-leb, eqb-true}
use Rattle.cue_show.specs.Laws.{IsRunsJoinedByPoints, CueNumbersAreRunsJoinedByPoints}
use Rattle.cue_show.specs.Number.{pieces, onto_first, is_run, is_cue_number}
use Rattle.cue_show.specs.declared.limits.TheConstants.{MAX_CUE_BYTES}
use Rattle.cue_show.proofs.RunsLemmas.{no_point}

-- there is a first piece
pieces-some : (bs : List ℕ) → (piece : List ℕ) × (rest : List (List ℕ)) × (pieces bs ≡ piece ∷ rest)
pieces-some [] = ([], [], refl)
pieces-some (b ∷ bs) = by (b == 46) refl (pieces-some bs)
  where
    by : (p : Bool) → (b == 46) ≡ p → (piece : List ℕ) × (rest : List (List ℕ)) × (pieces bs ≡ piece ∷ rest)
        → (piece : List ℕ) × (rest : List (List ℕ)) × (pieces (b ∷ bs) ≡ piece ∷ rest)
    by true is_point more = ([], pieces bs, rw is_point)
    by false is_point more = (b ∷ more.0, more.1, rw is_point (ap (onto_first b) more.2))

-- joined again they are the text
join-pieces : (bs : List ℕ) → join_with_byte 46 (pieces bs) ≡ bs
join-pieces [] = refl
join-pieces (b ∷ bs) = by (b == 46) refl (pieces-some bs) (join-pieces bs)
  where
    joined_onto : (piece : List ℕ) (rest : List (List ℕ))
        → join_with_byte 46 ((b ∷ piece) ∷ rest) ≡ b ∷ join_with_byte 46 (piece ∷ rest)
    joined_onto piece [] = refl
    joined_onto piece (next ∷ rest) = refl

    by : (p : Bool) → (b == 46) ≡ p → (piece : List ℕ) × (rest : List (List ℕ)) × (pieces bs ≡ piece ∷ rest)
        → join_with_byte 46 (pieces bs) ≡ bs → join_with_byte 46 (pieces (b ∷ bs)) ≡ b ∷ bs
    by true is_point some later =
        rw is_point (ap (λ ps. join_with_byte 46 ([] ∷ ps)) some.2 ∙ ap (λ ps. 46 ∷ join_with_byte 46 ps) (sym some.2)
        ∙ (λ i. sym (eqb-true b 46 is_point) i ∷ later i))
    by false is_point some later =
        rw is_point (ap (λ ps. join_with_byte 46 (onto_first b ps)) some.2 ∙ joined_onto some.0 some.1
        ∙ ap (λ ps. b ∷ join_with_byte 46 ps) (sym some.2) ∙ ap (λ t. b ∷ t) later)

-- a run is one piece
pieces-run : (run : List ℕ) → list_all is_ascii_digit run ≡ true → pieces run ≡ run ∷ []
pieces-run [] digits = refl
pieces-run (b ∷ bs) digits =
    let here = and_parts (is_ascii_digit b) (list_all is_ascii_digit bs) digits in
    rw (no_point b here.0) (ap (onto_first b) (pieces-run bs here.1))

-- and before a point it is the first
pieces-run-point : (run bs : List ℕ) → list_all is_ascii_digit run ≡ true → pieces (run ++ 46 ∷ bs) ≡ run ∷ pieces bs
pieces-run-point [] bs digits = refl
pieces-run-point (b ∷ run) bs digits =
    let here = and_parts (is_ascii_digit b) (list_all is_ascii_digit run) digits in
    rw (no_point b here.0) (ap (onto_first b) (pieces-run-point run bs here.1))

digits_of : (run : List ℕ) → is_run run ≡ true → list_all is_ascii_digit run ≡ true
digits_of run h = (and_parts (nat_le 1 (length run)) (list_all is_ascii_digit run) h).1

-- runs that were joined are the pieces
pieces-join : (run : List ℕ) (rest : List (List ℕ)) → list_all is_run (run ∷ rest) ≡ true
    → pieces (join_with_byte 46 (run ∷ rest)) ≡ run ∷ rest
pieces-join run [] all = pieces-run run (digits_of run (and_parts (is_run run) true all).0)
pieces-join run (next ∷ rest) all =
    let here = and_parts (is_run run) (list_all is_run (next ∷ rest)) all in
    pieces-run-point run (join_with_byte 46 (next ∷ rest)) (digits_of run here.0)
    ∙ ap (λ ps. run ∷ ps) (pieces-join next rest here.1)

from_runs : (text : List ℕ) → (runs : List (List ℕ)) → 0 < length runs → list_all is_run runs ≡ true
    → text ≡ join_with_byte 46 runs → list_all is_run (pieces text) ≡ true
from_runs text [] some all joined = absurd (omega arith)
from_runs text (run ∷ rest) some all joined = ap (λ t. list_all is_run (pieces t)) joined
    ∙ ap (list_all is_run) (pieces-join run rest all) ∙ all

some_pieces : (bs : List ℕ) → 0 < length (pieces bs)
some_pieces bs = let some = pieces-some bs in omega (arith, ap length some.2)

pub joined_runs : CueNumbersAreRunsJoinedByPoints
joined_runs text = (there, back)
  where
    there : IsTrue (is_cue_number text) → (length text ≤ MAX_CUE_BYTES) × IsRunsJoinedByPoints text
    there h =
        let parts = and_parts (nat_le (length text) MAX_CUE_BYTES) (list_all is_run (pieces text)) h in
        (leb-true (length text) MAX_CUE_BYTES parts.0, (pieces text, some_pieces text, parts.1, sym (join-pieces text)))

    back : (length text ≤ MAX_CUE_BYTES) × IsRunsJoinedByPoints text → IsTrue (is_cue_number text)
    back h = and_from (nat_le (length text) MAX_CUE_BYTES) (list_all is_run (pieces text))
        (le-leb (length text) MAX_CUE_BYTES h.0) (from_runs text h.1.0 h.1.1 h.1.2 h.1.3)
