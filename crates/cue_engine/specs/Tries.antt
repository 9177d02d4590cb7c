-- The tries of one call, and the first turn that they bring.
use Rattle.std.specs.Prelude.{◌≡◌, ℕ, zero, suc, List, [], ◌∷◌, Option, Some, None, Result, Ok, Err}
use Rattle.std.specs.Result.{result_ok}
use Rattle.std.specs.declared.io.Error.{Error}
use Rattle.cue_engine.specs.declared.sources.source.Turn.{Turn}
use Rattle.cue_engine.specs.declared.sources.source.SourceFault.{SourceFault}

-- what one try brings: what is passed over, a turn, or a fault
pub data Try : Type 0 where
  passes : Try
  brings : (turn : Turn) → Try
  breaks : Try

-- what a try answered
abbrev pub try_of : Result (Option Turn) Error → Try
try_of (Ok None) = passes
try_of (Ok (Some turn)) = brings turn
try_of (Err error) = breaks

-- the first of the tries that are left; after them each one fails
abbrev pub first_try : List Try → Try
first_try [] = breaks
first_try (t ∷ more) = t

abbrev pub others : List Try → List Try
others [] = []
others (t ∷ more) = more

-- a try brought this, and those are left; None: nothing is said, for good
abbrev pub Tried : Option (List Try) → Try → Option (List Try) → Type 0
Tried old brought None = Unit {0}
Tried None brought (Some new) = ⊥
Tried (Some old) brought (Some new) = (brought ≡ first_try old) × (new ≡ others old)

-- the first turn of so many tries, if all before it are passed over
abbrev pub first_of : ℕ → List Try → Option Turn
first_of zero tries = None
first_of (suc most) [] = None
first_of (suc most) (passes ∷ more) = first_of most more
first_of (suc most) (brings turn ∷ more) = Some turn
first_of (suc most) (breaks ∷ more) = None

-- a call of so many tries at most answered the first turn, and if they bring none a fault
abbrev pub GaveFirst : ℕ → Option (List Try) → Result Turn SourceFault → Option (List Try) → Type 0
GaveFirst most old result None = Unit {0}
GaveFirst most None result (Some new) = ⊥
GaveFirst most (Some old) result (Some new) = result_ok result ≡ first_of most old
