-- What a pattern means: a set of addresses (OSC 1.0, "OSC Message Dispatching and Pattern Matching").
use Rattle.std.specs.Prelude.{◌≡◌, ◌≢◌, ℕ, ◌≤◌, List, [], ◌∷◌, ◌++◌, ◌⊎◌}
use Rattle.std.specs.List.{AllByRecursion}
use Rattle.cue_pattern.specs.declared.ranges.Range.{Range}
use Rattle.cue_pattern.specs.declared.piece.Piece.{Piece}
use Rattle.cue_pattern.specs.declared.piece.Piece.TheVariants.{One, Many, Listed, Unlisted, Among, Plain}
use Rattle.cue_pattern.specs.Bytes.{slash}

-- a byte of one of the ranges
abbrev pub IsIn : List Range → ℕ → Type 0
IsIn [] b = ⊥
IsIn (r ∷ rs) b = ((r.low ≤ b) × (b ≤ r.high)) ⊎ IsIn rs b

-- one of the texts
abbrev pub IsAmong : List (List ℕ) → List ℕ → Type 0
IsAmong [] t = ⊥
IsAmong (u ∷ us) t = (t ≡ u) ⊎ IsAmong us t

-- a text of the set that a piece stands for
abbrev pub InPiece : Piece → List ℕ → Type 0
InPiece One t = (b : ℕ) × (t ≡ b ∷ [])
InPiece Many t = Unit {0}
InPiece (Listed rs) t = (b : ℕ) × (t ≡ b ∷ []) × IsIn rs b
InPiece (Unlisted rs) t = (b : ℕ) × (t ≡ b ∷ []) × (IsIn rs b → ⊥)
InPiece (Among ts) t = IsAmong ts t
InPiece (Plain c) t = t ≡ c ∷ []

-- a text of the set that pieces in a row stand for: it splits into one text of each
abbrev pub InPart : List Piece → List ℕ → Type 0
InPart [] t = t ≡ []
InPart (p ∷ ps) t = (front : List ℕ) × (rest : List ℕ) × (t ≡ front ++ rest) × InPiece p front × InPart ps rest

-- as many texts as parts, each of its part's set
abbrev pub InParts : List (List Piece) → List (List ℕ) → Type 0
InParts [] [] = Unit {0}
InParts [] (t ∷ ts) = ⊥
InParts (p ∷ ps) [] = ⊥
InParts (p ∷ ps) (t ∷ ts) = InPart p t × InParts ps ts

-- the texts, with a separator between two
abbrev pub separated_texts : ℕ → List (List ℕ) → List ℕ
separated_texts c [] = []
separated_texts c (t ∷ []) = t
separated_texts c (t ∷ u ∷ ts) = t ++ c ∷ separated_texts c (u ∷ ts)

-- the byte is not in the text
abbrev pub HasNo : ℕ → List ℕ → Type 0
HasNo c t = AllByRecursion (λ b. b ≢ c) t

-- the bytes, cut at every separator, are these texts; there is at least one
abbrev pub IsCut : ℕ → List ℕ → List (List ℕ) → Type 0
IsCut c bytes ts = (ts ≢ []) × (bytes ≡ separated_texts c ts) × AllByRecursion (HasNo c) ts

-- the bytes begin with a slash, and what follows, cut at every slash, is these parts
abbrev pub AreParts : List ℕ → List (List ℕ) → Type 0
AreParts bytes ts = (rest : List ℕ) × (bytes ≡ slash ∷ rest) × IsCut slash rest ts

-- the pattern denotes the address: part by part, as many of the one as of the other
abbrev pub Denotes : List (List Piece) → List ℕ → Type 0
Denotes pattern address = (ts : List (List ℕ)) × AreParts address ts × InParts pattern ts
