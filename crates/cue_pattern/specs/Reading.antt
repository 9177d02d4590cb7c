-- Helper: reading as a function on lists. By the law `reads_the_grammar` it finds the one pattern that the bytes spell
-- (`Grammar.antt`), and none if they spell none.
use Rattle.std.specs.Prelude.{ℕ, zero, suc, ◌+◌, Bool, ◌&&◌, ◌==◌, not, if◌then◌else◌, List, [], ◌∷◌, length, Option}
use Rattle.std.specs.Prelude.{None, Some, option_and_then}
use Rattle.std.specs.Option.{option_map}
use Rattle.std.specs.List.{list_all}
use Rattle.cue_pattern.specs.declared.piece.Piece.{Piece}
use Rattle.cue_pattern.specs.declared.piece.Piece.TheVariants.{One, Many, Listed, Unlisted, Among, Plain}
use Rattle.cue_pattern.specs.Grammar.{ranges}
use Rattle.cue_pattern.specs.Bytes.{asterisk, close_brace, close_bracket, comma, exclamation_mark, open_brace}
use Rattle.cue_pattern.specs.Bytes.{open_bracket, question_mark, slash}

-- one byte more at the front of the first text
abbrev pub with_byte : ℕ → List (List ℕ) → List (List ℕ)
with_byte b [] = (b ∷ []) ∷ []
with_byte b (t ∷ ts) = (b ∷ t) ∷ ts

-- the texts between the separators
abbrev pub cut : ℕ → List ℕ → List (List ℕ)
cut c [] = [] ∷ []
cut c (b ∷ bs) = if b == c then [] ∷ cut c bs else with_byte b (cut c bs)

-- the parts of an address or of a pattern, if it begins with a slash
abbrev pub parts_of : List ℕ → Option (List (List ℕ))
parts_of [] = None
parts_of (b ∷ bs) = if b == slash then Some (cut slash bs) else None

-- what stands before the first closing byte, if there is one
abbrev pub text_before : ℕ → List ℕ → Option (List ℕ)
text_before c [] = None
text_before c (b ∷ bs) = if b == c then Some [] else option_map (λ t. b ∷ t) (text_before c bs)

-- the piece that brackets make of what stands after their exclamation mark; none if nothing does
abbrev pub negated_piece : List ℕ → Option Piece
negated_piece [] = None
negated_piece (b ∷ bs) = Some (Unlisted (ranges (b ∷ bs)))

-- the piece that brackets make of what stands in them
abbrev pub bracketed_piece : List ℕ → Option Piece
bracketed_piece [] = None
bracketed_piece (b ∷ bs) = if b == exclamation_mark then negated_piece bs else Some (Listed (ranges (b ∷ bs)))

-- it may stand in braces
abbrev pub is_braced : ℕ → Bool
is_braced b =
    not (b == open_bracket) && (not (b == close_bracket)
    && (not (b == open_brace) && (not (b == close_brace) && (not (b == asterisk) && not (b == question_mark)))))

-- the piece that braces make of what stands in them; none if a byte may not stand there
abbrev pub braced_piece : List ℕ → Option Piece
braced_piece inside = if list_all is_braced inside then Some (Among (cut comma inside)) else None

-- the piece that is made of what is enclosed, and how many bytes after its first are its own
abbrev pub piece_between : (List ℕ → Option Piece) → Option (List ℕ) → Option (Piece × ℕ)
piece_between piece None = None
piece_between piece (Some inside) = option_map (λ p. (p, length inside + 1)) (piece inside)

-- the piece that begins with this byte, and how many of the bytes after it are its own
unfoldable pub piece_at : ℕ → List ℕ → Option (Piece × ℕ)
piece_at b bs =
    if b == question_mark then Some (One, 0) else
    if b == asterisk then Some (Many, 0) else
    if b == open_bracket then piece_between bracketed_piece (text_before close_bracket bs) else
    if b == open_brace then piece_between braced_piece (text_before close_brace bs) else
    Some (Plain b, 0)

-- the pieces of what is left of a text after so many bytes
unfoldable pub pieces_after : ℕ → List ℕ → Option (List Piece)
pieces_after zero [] = Some []
pieces_after (suc n) [] = Some []
pieces_after (suc n) (b ∷ bs) = pieces_after n bs
pieces_after zero (b ∷ bs) =
    option_and_then (λ (found : Piece × ℕ). option_map (λ ps. found.0 ∷ ps) (pieces_after found.1 bs))
    (piece_at b bs)

-- the pieces of each part
unfoldable pub pieces_of : List (List ℕ) → Option (List (List Piece))
pieces_of [] = Some []
pieces_of (t ∷ ts) = option_and_then (λ p. option_map (λ ps. p ∷ ps) (pieces_of ts)) (pieces_after 0 t)

-- the pattern that the bytes spell; none if they are no pattern
unfoldable pub pattern_at : List ℕ → Option (List (List Piece))
pattern_at bytes = option_and_then pieces_of (parts_of bytes)
