use Rattle.std.proofs.Common.{◌+◌, length, List, ap, sym, ◌∙◌, arith}
use Rattle.std.specs.Option.{option_map}
use Rattle.cue_pattern.specs.declared.piece.Piece.{Piece}
use Rattle.cue_pattern.proofs.SpellingLemmas.{none-at, counted-at, shorter-at, counted-end}
use Rattle.cue_pattern.proofs.token.count_pieces.Goals as goal

pub returns-in_err-after : goal.returns-in_err-after
returns-in_err-after c =
    let none = none-at c.loop-rest.rest.now c.in-len1-up.len_at_least c.in_err-after.ensures in
    c.from_residual.ensures ∙ (ap (option_map (λ (ps : List Piece). c.loop-rest.count + length ps)) (sym none)
    ∙ c.loop-rest.invariant.all)

pub loop-rest-preserved : goal.loop-rest-preserved
loop-rest-preserved c =
    let t = c.loop-rest.rest.now in
    let l = c.in-len1-up.len_at_least in
    record {
      few = omega (arith, shorter-at t _ _ l (record { read = c.in_ok-after.ensures }));
      all = counted-at c.loop-rest.count t _ _ l (record { read = c.in_ok-after.ensures }) ∙ c.loop-rest.invariant.all;
    }

pub returns : goal.returns
returns c = counted-end c.loop-rest.count c.loop-rest.rest.now c.in_default.len_below ∙ c.loop-rest.invariant.all
