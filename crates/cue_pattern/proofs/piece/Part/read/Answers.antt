use Rattle.std.proofs.Common.{◌≡◌, ◌++◌, [], ◌∷◌, List, ap, sym, ◌∙◌}
use Rattle.cue_pattern.specs.declared.piece.Piece.{Piece}
use Rattle.cue_pattern.specs.Reading.{pieces_after}
use Rattle.cue_pattern.specs.Steps.{piece_of}
use Rattle.cue_pattern.proofs.FrontLemmas.{with_front}
use Rattle.cue_pattern.proofs.SpellingLemmas.{none-at, fronted-at, fronted-end}
use Rattle.cue_pattern.proofs.piece.Part.read.Goals as goal

pub returns-in_default-token_at-clause-bad : goal.returns-in_default-token_at-clause-bad
returns-in_default-token_at-clause-bad c = λ h.
    sym c.loop-rest.invariant
    ∙ ap (with_front c.loop-rest.pieces.items)
    (none-at c.loop-rest.rest.now c.in-len1-up.len_at_least c.in_default-token_at.ensures)

pub loop-rest-preserved : goal.loop-rest-preserved
loop-rest-preserved c =
    let items : c.push.new.self.items ≡ c.loop-rest.pieces.items ++ piece_of c.in-Some-token_at.token ∷ [] =
    c.in_ok-push.ensures.items ∙ ap (λ (p : Piece). c.loop-rest.pieces.items ++ p ∷ []) c.in_ok-read.ensures in
    ap (λ (ps : List Piece). with_front ps (pieces_after 0 c.in-Some-token_at.after.now)) items
    ∙ fronted-at c.loop-rest.pieces.items c.loop-rest.rest.now (piece_of c.in-Some-token_at.token)
    c.in-Some-token_at.after.now c.in-len1-up.len_at_least (record { read = c.in-Some-token_at.ensures })
    ∙ c.loop-rest.invariant

pub returns-clause-found : goal.returns-clause-found
returns-clause-found c = sym c.loop-rest.invariant
    ∙ fronted-end c.loop-rest.pieces.items c.loop-rest.rest.now c.in_default-rest.len_below
