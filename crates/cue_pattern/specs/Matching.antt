-- Helper: matching as a test that computes, a piece after the other. By the law `matches_the_meaning` it holds of
-- exactly the addresses that a pattern denotes (`Meaning.antt`).
use Rattle.std.specs.Prelude.{ℕ, Bool, true, false, not, ◌&&◌, ◌||◌, ◌==◌, nat_le, List, [], ◌∷◌, Option, None, Some}
use Rattle.std.specs.List.{list_any}
use Rattle.cue_pattern.specs.declared.ranges.Range.{Range}
use Rattle.cue_pattern.specs.declared.piece.Piece.{Piece}
use Rattle.cue_pattern.specs.declared.piece.Piece.TheVariants.{One, Many, Listed, Unlisted, Among, Plain}
use Rattle.cue_pattern.specs.Reading.{parts_of}

-- whether one of the ranges has the byte
abbrev pub is_in : List Range → ℕ → Bool
is_in rs b = list_any (λ (r : Range). nat_le r.low b && nat_le b r.high) rs

-- whether a piece that stands for single bytes stands for this one
abbrev pub takes : Piece → ℕ → Bool
takes One b = true
takes Many b = false
takes (Listed rs) b = is_in rs b
takes (Unlisted rs) b = not (is_in rs b)
takes (Among ts) b = false
takes (Plain c) b = b == c

-- whether the text is a byte that passes the first test, and then a text that passes the second
abbrev pub after_byte : (ℕ → Bool) → (List ℕ → Bool) → List ℕ → Bool
after_byte test rest [] = false
after_byte test rest (b ∷ t) = test b && rest t

-- whether the text is any text, and then one that passes the test
abbrev pub after_any : (List ℕ → Bool) → List ℕ → Bool
after_any rest [] = rest []
after_any rest (b ∷ t) = rest (b ∷ t) || after_any rest t

-- whether the text is this text, and then one that passes the test
abbrev pub after_text : List ℕ → (List ℕ → Bool) → List ℕ → Bool
after_text [] rest t = rest t
after_text (c ∷ u) rest [] = false
after_text (c ∷ u) rest (b ∷ t) = (c == b) && after_text u rest t

-- whether the text is one of these texts, and then one that passes the test
abbrev pub after_texts : List (List ℕ) → (List ℕ → Bool) → List ℕ → Bool
after_texts ts rest t = list_any (λ u. after_text u rest t) ts

-- whether the text is one of the piece's set, and then one that passes the test
abbrev pub after_piece : Piece → (List ℕ → Bool) → List ℕ → Bool
after_piece One rest t = after_byte (takes One) rest t
after_piece Many rest t = after_any rest t
after_piece (Listed rs) rest t = after_byte (takes (Listed rs)) rest t
after_piece (Unlisted rs) rest t = after_byte (takes (Unlisted rs)) rest t
after_piece (Among ts) rest t = after_texts ts rest t
after_piece (Plain c) rest t = after_byte (takes (Plain c)) rest t

-- no text is left
abbrev pub is_empty_text : List ℕ → Bool
is_empty_text [] = true
is_empty_text (b ∷ t) = false

-- whether the pieces in a row match the text
unfoldable pub part_matches : List Piece → List ℕ → Bool
part_matches [] t = is_empty_text t
part_matches (p ∷ ps) t = after_piece p (part_matches ps) t

-- whether there are as many texts as parts, and each part matches its text
unfoldable pub parts_match : List (List Piece) → List (List ℕ) → Bool
parts_match [] [] = true
parts_match [] (t ∷ ts) = false
parts_match (p ∷ ps) [] = false
parts_match (p ∷ ps) (t ∷ ts) = part_matches p t && parts_match ps ts

-- the same if there may be no parts, since the bytes are no address
abbrev pub matches_parts : List (List Piece) → Option (List (List ℕ)) → Bool
matches_parts pattern None = false
matches_parts pattern (Some ts) = parts_match pattern ts

-- whether the pattern matches the address
unfoldable pub matches : List (List Piece) → List ℕ → Bool
matches pattern address = matches_parts pattern (parts_of address)
