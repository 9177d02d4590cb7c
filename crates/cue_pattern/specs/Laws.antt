-- What ties the functions that compute to what a pattern means and how it is written.
use Rattle.std.specs.Prelude.{◌≡◌, ◌≢◌, ◌↔◌, ℕ, IsTrue, List, [], ◌∷◌, Some}
use Rattle.std.specs.List.{AllByRecursion}
use Rattle.cue_pattern.specs.declared.piece.Piece.{Piece}
use Rattle.cue_pattern.specs.Bytes.{slash}
use Rattle.cue_pattern.specs.Meaning.{Denotes, HasNo, separated_texts}
use Rattle.cue_pattern.specs.Grammar.{IsPattern}
use Rattle.cue_pattern.specs.Reading.{pattern_at}
use Rattle.cue_pattern.specs.Matching.{parts_match, matches}

-- what is read is what the bytes spell, and no bytes spell two patterns
abbrev pub ReadsTheGrammar : Type 0
ReadsTheGrammar =
    (bytes : List ℕ) (pattern : List (List Piece)) → (pattern_at bytes ≡ Some pattern) ↔ IsPattern bytes pattern

-- the test is the meaning
abbrev pub MatchesTheMeaning : Type 0
MatchesTheMeaning =
    (pattern : List (List Piece)) (address : List ℕ) → IsTrue (matches pattern address) ↔ Denotes pattern address

-- an address that is put together of texts is matched text by text: by as many parts as texts, each of which matches
-- its own
abbrev pub MatchesPartByPart : Type 0
MatchesPartByPart =
    (pattern : List (List Piece)) (texts : List (List ℕ)) → texts ≢ [] → AllByRecursion (HasNo slash) texts
    → matches pattern (slash ∷ separated_texts slash texts) ≡ parts_match pattern texts
