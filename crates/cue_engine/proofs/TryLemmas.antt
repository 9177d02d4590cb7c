-- Tries that are passed over, and the first turn.
use Rattle.std.specs.Prelude.{◌≡◌, ℕ, zero, suc, ◌+◌, ◌-◌, ◌<◌, List, [], ◌∷◌, Option, Some, None, Ok, Err}
use Rattle.std.proofs.Common.{refl, sym, ◌∙◌, arith}
use Rattle.cue_engine.specs.declared.sources.source.Turn.{Turn}
use Rattle.cue_engine.specs.declared.sources.source.SourceFault.{SourceFault}
use Rattle.cue_engine.specs.Tries.{Try, passes, brings, breaks, Tried, first_of, GaveFirst}

-- so many tries were passed over, and the first turn is that of the others
abbrev pub Passed : ℕ → ℕ → Option (List Try) → Option (List Try) → Type 0
Passed most done old None = Unit {0}
Passed most done None (Some new) = ⊥
Passed most done (Some old) (Some new) = first_of most old ≡ first_of (most - done) new

pub passed_none : (most : ℕ) (old : Option (List Try)) → Passed most 0 old old
passed_none most None = tt
passed_none most (Some old) = let all : most - 0 ≡ most = omega arith in rw all refl

-- one more is passed over
pub passed_more : (most done : ℕ) (old mid new : Option (List Try)) → done < most → Passed most done old mid
    → Tried mid passes new → Passed most (done + 1) old new
passed_more most done old mid None low before now = tt
passed_more most done old None (Some new) low before now = absurd now
passed_more most done None (Some mid) (Some new) low before now = absurd before
passed_more most done (Some old) (Some []) (Some new) low before now = cc
passed_more most done (Some old) (Some (t ∷ mid)) (Some new) low before now =
    let left : most - done ≡ suc (most - (done + 1)) = omega arith in
    before ∙ rw (left, sym now.0, now.1) refl

-- a turn
pub gave_turn : (most done : ℕ) (old mid new : Option (List Try)) (turn : Turn) → done < most → Passed most done old mid
    → Tried mid (brings turn) new → GaveFirst most old (Ok turn) new
gave_turn most done old mid None turn low before now = tt
gave_turn most done old None (Some new) turn low before now = absurd now
gave_turn most done None (Some mid) (Some new) turn low before now = absurd before
gave_turn most done (Some old) (Some []) (Some new) turn low before now = cc
gave_turn most done (Some old) (Some (t ∷ mid)) (Some new) turn low before now =
    let left : most - done ≡ suc (most - (done + 1)) = omega arith in
    sym (before ∙ rw (left, sym now.0) refl)

-- a try that fails
pub gave_fault : (most done : ℕ) (old mid new : Option (List Try)) (fault : SourceFault) → done < most
    → Passed most done old mid → Tried mid breaks new → GaveFirst most old (Err fault) new
gave_fault most done old mid None fault low before now = tt
gave_fault most done old None (Some new) fault low before now = absurd now
gave_fault most done None (Some mid) (Some new) fault low before now = absurd before
gave_fault most done (Some old) (Some []) (Some new) fault low before now =
    let left : most - done ≡ suc (most - (done + 1)) = omega arith in
    sym (before ∙ rw left refl)
gave_fault most done (Some old) (Some (t ∷ mid)) (Some new) fault low before now =
    let left : most - done ≡ suc (most - (done + 1)) = omega arith in
    sym (before ∙ rw (left, sym now.0) refl)

-- none is left
pub gave_none : (most : ℕ) (old new : Option (List Try)) (fault : SourceFault) → Passed most most old new
    → GaveFirst most old (Err fault) new
gave_none most old None fault before = tt
gave_none most None (Some new) fault before = absurd before
gave_none most (Some old) (Some new) fault before =
    let none : most - most ≡ zero = omega arith in
    sym (before ∙ rw none refl)
