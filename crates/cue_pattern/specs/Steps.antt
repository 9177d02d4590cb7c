-- Helper: what the steps of reading and matching give each other.
use Rattle.std.specs.Prelude.{◌≡◌, ℕ, ◌+◌, ◌<◌, ◌≤◌, Bool, false, List, [], ◌∷◌, ◌&&◌, nat_eq, length, drop}
use Rattle.std.specs.Prelude.{Option, None, Some, IfSome, slice_index_or}
use Rattle.std.specs.List.{starts_with}
use Rattle.std.specs.Option.{option_map}
use Rattle.cue_pattern.specs.declared.piece.Piece.{Piece}
use Rattle.cue_pattern.specs.declared.piece.Piece.TheVariants.{One, Many, Listed, Unlisted, Among, Plain}
use Rattle.cue_pattern.specs.declared.token.Token.{Token}
use Rattle.cue_pattern.specs.declared.token.Token.TheVariants as token
use Rattle.cue_pattern.specs.Grammar.{ranges}
use Rattle.cue_pattern.specs.Reading.{cut, text_before}
use Rattle.cue_pattern.specs.Bytes.{comma}

-- the texts that are still to come
abbrev pub cut_left : ℕ → Option (List ℕ) → List (List ℕ)
cut_left c None = []
cut_left c (Some bytes) = cut c bytes

-- how many bytes are left, and one more if there are texts to come
abbrev pub left_len : Option (List ℕ) → ℕ
left_len None = 0
left_len (Some bytes) = length bytes + 1

-- what stands before the first separator, and after it if there is one
pub record CutsFirst (c : ℕ) (bytes before : List ℕ) (behind : Option (List ℕ)) : Type 0 where
  pub parts : cut c bytes ≡ before ∷ cut_left c behind
  pub inside : text_before c bytes ≡ option_map (λ _. before) behind
  pub rest : IfSome behind (λ r. (r ≡ drop (length before + 1) bytes) × (length before + length r + 1 ≡ length bytes))

-- the piece that a token spells
abbrev pub piece_of : Token → Piece
piece_of token.One = One
piece_of token.Many = Many
piece_of (token.Listed inside) = Listed (ranges inside.now)
piece_of (token.Unlisted inside) = Unlisted (ranges inside.now)
piece_of (token.Among inside) = Among (cut comma inside.now)
piece_of (token.Plain b) = Plain b

-- a piece is read at the front, and leaves the rest
pub record Reads (found : Option (Piece × ℕ)) (behind : List ℕ) (piece : Piece) (rest : List ℕ) : Type 0 where
  pub own : ℕ
  pub piece_is : found ≡ Some (piece, own)
  pub rest_is : rest ≡ drop own behind

-- whether the text u stands at the front of t, and the position after it is reached
abbrev pub leads : List ℕ → List ℕ → List Bool → Bool
leads u t reached = starts_with nat_eq t u && slice_index_or reached (length u) false

-- the marks say from which positions of the text the test passes
pub record Tells (test : List ℕ → Bool) (text : List ℕ) (reached : List Bool) : Type 0 where
  pub long : length text < length reached
  pub marks : (k : ℕ) → k ≤ length text → slice_index_or reached k false ≡ test (drop k text)
