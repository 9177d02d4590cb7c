-- Lines of the board begin with what they say.
use Rattle.std.proofs.Common.{◌≡◌, ◌∙◌, List, [], ◌∷◌, ◌++◌, map, refl, ap}
use Rattle.std.specs.Prelude.{String, string_bytes}
use Rattle.std.specs.declared.alloc.Global.{Global}
use Rattle.std.proofs.lemmas.List.{map-append}
use Rattle.cue_board.specs.declared.line.BoardLine.{BoardLine}
use Rattle.cue_board.specs.Board.{Begin, EachBegins, said_of, text_of}

pub each-begins : (ls : List BoardLine) → EachBegins (map said_of ls) (map text_of ls)
unfolding said_of text_of
each-begins [] = tt
each-begins (l ∷ ls) = ((string_bytes l.rest, refl), each-begins ls)

-- the lines begin with what they say, whatever follows after them
pub begin_drawn : (ls : List BoardLine) (ts more all : List (String Global)) → map string_bytes ts ≡ map text_of ls
    → all ≡ ts ++ more → Begin (map said_of ls) (map string_bytes all)
begin_drawn ls ts more all e f = record {
  first = map text_of ls;
  heard = map string_bytes more;
  whole = ap (map string_bytes) f ∙ map-append string_bytes ts more ∙ ap (λ l. l ++ map string_bytes more) e;
  each = each-begins ls;
}
