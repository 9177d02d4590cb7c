-- How a pattern is written (OSC 1.0, "OSC Message Dispatching and Pattern Matching").
use Rattle.std.specs.Prelude.{◌≡◌, ◌≢◌, ℕ, List, [], ◌∷◌, ◌++◌, ◌==◌, if◌then◌else◌}
use Rattle.std.specs.List.{AllByRecursion}
use Rattle.cue_pattern.specs.declared.ranges.Range.{Range}
use Rattle.cue_pattern.specs.declared.piece.Piece.{Piece}
use Rattle.cue_pattern.specs.declared.piece.Piece.TheVariants.{One, Many, Listed, Unlisted, Among, Plain}
use Rattle.cue_pattern.specs.Meaning.{HasNo, IsCut, AreParts}
use Rattle.cue_pattern.specs.Bytes.{asterisk, close_brace, close_bracket, comma, exclamation_mark, minus, open_brace}
use Rattle.cue_pattern.specs.Bytes.{open_bracket, question_mark}

-- a byte that stands for itself
abbrev pub only : ℕ → Range
only c = record { low = c; high = c }

-- what stands in brackets, from left to right: c-d is a range, and a minus that makes none stands for itself
abbrev pub ranges : List ℕ → List Range
ranges [] = []
ranges (c ∷ []) = only c ∷ []
ranges (c ∷ m ∷ []) = only c ∷ only m ∷ []
ranges (c ∷ m ∷ d ∷ rest) =
    if m == minus then record { low = c; high = d } ∷ ranges rest else only c ∷ ranges (m ∷ d ∷ rest)

-- outside brackets and braces it stands for itself: none of ? * [ {
abbrev pub IsPlain : ℕ → Type 0
IsPlain c = (c ≢ question_mark) × (c ≢ asterisk) × (c ≢ open_bracket) × (c ≢ open_brace)

-- it may stand in braces: none of [ ] { } * ?
abbrev pub IsBraced : ℕ → Type 0
IsBraced c =
    (c ≢ open_bracket) × (c ≢ close_bracket) × (c ≢ open_brace) × (c ≢ close_brace) × (c ≢ asterisk)
    × (c ≢ question_mark)

-- the bytes that spell a piece
abbrev pub IsPiece : List ℕ → Piece → Type 0
IsPiece t One = t ≡ question_mark ∷ []
IsPiece t Many = t ≡ asterisk ∷ []
-- [..], not empty and not begun by an exclamation mark; it closes at the first ]
IsPiece t (Listed rs) =
    (first : ℕ) × (more : List ℕ) × (t ≡ open_bracket ∷ (first ∷ more ++ close_bracket ∷ []))
    × (first ≢ exclamation_mark) × HasNo close_bracket (first ∷ more) × (rs ≡ ranges (first ∷ more))
-- [!..], not empty after the exclamation mark
IsPiece t (Unlisted rs) =
    (first : ℕ) × (more : List ℕ) × (t ≡ open_bracket ∷ exclamation_mark ∷ (first ∷ more ++ close_bracket ∷ []))
    × HasNo close_bracket (first ∷ more) × (rs ≡ ranges (first ∷ more))
-- {..}: texts, also empty ones, with a comma between two
IsPiece t (Among ts) =
    (inside : List ℕ) × (t ≡ open_brace ∷ (inside ++ close_brace ∷ [])) × AllByRecursion IsBraced inside
    × IsCut comma inside ts
IsPiece t (Plain c) = (t ≡ c ∷ []) × IsPlain c

-- the bytes that spell pieces in a row
abbrev pub IsPart : List ℕ → List Piece → Type 0
IsPart t [] = t ≡ []
IsPart t (p ∷ ps) = (front : List ℕ) × (rest : List ℕ) × (t ≡ front ++ rest) × IsPiece front p × IsPart rest ps

-- each text spells its part
abbrev pub ArePartsSpelled : List (List ℕ) → List (List Piece) → Type 0
ArePartsSpelled [] [] = Unit {0}
ArePartsSpelled [] (p ∷ ps) = ⊥
ArePartsSpelled (t ∷ ts) [] = ⊥
ArePartsSpelled (t ∷ ts) (p ∷ ps) = IsPart t p × ArePartsSpelled ts ps

-- the bytes spell the pattern
abbrev pub IsPattern : List ℕ → List (List Piece) → Type 0
IsPattern bytes pattern = (ts : List (List ℕ)) × AreParts bytes ts × ArePartsSpelled ts pattern
