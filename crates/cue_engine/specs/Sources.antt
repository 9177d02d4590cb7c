-- What a source gives, and what it says is left.
use Rattle.std.specs.Prelude.{◌≡◌, ◌≤◌, ℕ, List, [], ◌∷◌, take, Option, Some, None, Result, Ok, Err}
use Rattle.cue_engine.specs.declared.sources.source.Turn.{Turn}
use Rattle.cue_engine.specs.declared.sources.source.Turn.TheVariants as turn
use Rattle.cue_engine.specs.declared.sources.source.SourceFault.{SourceFault}
use Rattle.cue_engine.specs.declared.sources.source.Waiting.{Waiting}
use Rattle.cue_engine.specs.Given.{Input, datagram, tick}

-- one answer of a source: an input at a time, the end, or a fault
pub data Answer : Type 0 where
  comes : (now : ℕ) (input : Input) → Answer
  ends : Answer
  fails : Answer

-- what a call answered, with what stands in its buffer
abbrev pub gave : Result Turn SourceFault → List ℕ → Answer
gave (Ok turn.End) buffer = ends
gave (Ok (turn.Tick now)) buffer = comes now tick
gave (Ok (turn.Datagram now from n)) buffer = comes now (datagram from (take n buffer))
gave (Err e) buffer = fails

-- a datagram lies within the buffer
abbrev pub IsWithin : Result Turn SourceFault → ℕ → Type 0
IsWithin (Ok turn.End) size = Unit {0}
IsWithin (Ok (turn.Tick now)) size = Unit {0}
IsWithin (Ok (turn.Datagram now from n)) size = n ≤ size
IsWithin (Err e) size = Unit {0}

-- an answer as it comes into a buffer of this size: a longer datagram is cut
abbrev pub cut : ℕ → Answer → Answer
cut size (comes now (datagram from bytes)) = comes now (datagram from (take size bytes))
cut size (comes now tick) = comes now tick
cut size ends = ends
cut size fails = fails

-- the first of the answers that are left; after them a source ends
abbrev pub first_left : List Answer → Answer
first_left [] = ends
first_left (a ∷ more) = a

abbrev pub others_left : List Answer → List Answer
others_left [] = []
others_left (a ∷ more) = more

-- these answers were given in turn, and those are left
abbrev pub GaveInTurn : ℕ → List Answer → List Answer → List Answer → Type 0
GaveInTurn size old [] new = new ≡ old
GaveInTurn size old (g ∷ gs) new = (g ≡ cut size (first_left old)) × GaveInTurn size (others_left old) gs new

-- the same of what a source says is left; None: it says nothing, for good
abbrev pub GaveAll : ℕ → Option (List Answer) → List Answer → Option (List Answer) → Type 0
GaveAll size old gs None = Unit {0}
GaveAll size None gs (Some new) = ⊥
GaveAll size (Some old) gs (Some new) = GaveInTurn size old gs new

-- a datagram that waited lies within the buffer
abbrev pub WaitsWithin : Result (Option Waiting) SourceFault → ℕ → Type 0
WaitsWithin (Ok (Some waiting)) size = waiting.n ≤ size
WaitsWithin (Ok None) size = Unit {0}
WaitsWithin (Err e) size = Unit {0}

-- the answer that a datagram is that waited
abbrev pub gave_waiting : Waiting → List ℕ → Answer
gave_waiting waiting buffer = comes waiting.now (datagram waiting.from (take waiting.n buffer))

-- What a call for a datagram that waits answered, with what stands in its buffer: the next answer is a datagram or a
-- fault, or else all answers are left.
abbrev pub Waited : ℕ → Result (Option Waiting) SourceFault → (buffer : List ℕ)
    → (left left_then : Option (List Answer)) → Type 0
Waited size (Ok (Some waiting)) buffer left left_then = GaveAll size left (gave_waiting waiting buffer ∷ []) left_then
Waited size (Ok None) buffer left left_then = left_then ≡ left
Waited size (Err e) buffer left left_then = GaveAll size left (fails ∷ []) left_then
