-- What the definitions of a pair give, over any bytes.
use Rattle.std.specs.Prelude.{◌≡◌, ◌⊎◌, ℕ, List, Some}
use Rattle.cue_log.specs.Area.{Area}
use Rattle.cue_log.specs.Laws.{AreBytes}
use Rattle.cue_snap.specs.Pair.{PairReads, NeitherHas, IsSpoiled}
use Rattle.cue_snap.specs.Reading.{pair_in}
use Rattle.cue_snap.specs.declared.forming.TheConstants.{FIRST}

-- The order of the two does not count.
abbrev pub PairsAreSymmetric : Type 0
PairsAreSymmetric = (area : Area) (x y : List ℕ) → PairReads area x y → PairReads area y x

-- A pair reads as one area at most.
abbrev pub OneAreaOfAPair : Type 0
OneAreaOfAPair = (a b : Area) (x y : List ℕ) → PairReads a x y → PairReads b x y → a ≡ b

-- The reader of pairs finds the area that a pair reads as.
abbrev pub ReaderFindsEachPair : Type 0
ReaderFindsEachPair = (area : Area) (x y : List ℕ) → PairReads area x y → pair_in x y ≡ Some area

-- Any two lists of bytes read as an area, or neither has one, or they are spoiled.
abbrev pub AnyPairAnswers : Type 0
AnyPairAnswers = (x y : List ℕ) → AreBytes x → AreBytes y
    → NeitherHas x y ⊎ ((area : Area) × PairReads area x y) ⊎ IsSpoiled x y

-- A pair that reads as an area has one, and is not spoiled.
abbrev pub PairThatReadsIsGood : Type 0
PairThatReadsIsGood =
    (area : Area) (x y : List ℕ) → PairReads area x y → (NeitherHas x y → ⊥) × (IsSpoiled x y → ⊥)

-- The generation that a pair begins with, as a number.
abbrev pub PairsBeginWithOne : Type 0
PairsBeginWithOne = FIRST ≡ 1
