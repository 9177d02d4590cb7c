use Rattle.std.proofs.Common.{ℕ, List, Option, Bor, length, ◌+◌, ap, sym, ◌∙◌, arith}
use Rattle.std.specs.Option.{option_copied, option_map}
use Rattle.cue_pattern.specs.declared.piece.Piece.{Piece}
use Rattle.cue_pattern.specs.Reading.{pieces_of}
use Rattle.cue_pattern.specs.Steps.{cut_left, left_len}
use Rattle.cue_pattern.proofs.PartsLemmas.{pattern_at-no_slash, pattern_at-behind, parts-uncounted_yet, parts-uncounted}
use Rattle.cue_pattern.proofs.PartsLemmas.{parts-counted, parts-counted_all, cut-shorter}
use Rattle.cue_pattern.proofs.pattern.count_parts.Goals as goal

pub returns-in_err-first : goal.returns-in_err-first
returns-in_err-first c =
    c.from_residual.ensures ∙ sym
    (ap (option_map {U = ℕ} (length {A = List Piece})) (pattern_at-no_slash _ c.in_err-first.ensures.parts))

pub loop-left-init : goal.loop-left-init
loop-left-init c = record {
  few = omega (arith, c.in_ok-first.ensures.shorter);
  all = parts-uncounted_yet _
      ∙ sym (ap (option_map {U = ℕ} (length {A = List Piece}))
      (pattern_at-behind _ c.in_ok-first.first.now c.in_ok-first.ensures.parts));
}

pub returns-in_err-count_pieces : goal.returns-in_err-count_pieces
returns-in_err-count_pieces c =
    let m = c.loop-left.count in
    c.from_residual-in_err-count_pieces.ensures
    ∙ (sym (ap (option_map (λ (ps : List (List Piece)). m + length ps))
    (parts-uncounted _ _ _ c.cut_first.ensures c.in_err-count_pieces.ensures))
    ∙ (ap (λ (o : Option (Bor (List ℕ))). option_map {U = ℕ} (λ ps. m + length ps)
    (pieces_of (cut_left 47 (option_copied o)))) (sym c.in-Some.is)
    ∙ c.loop-left.invariant.all))

pub loop-left-preserved : goal.loop-left-preserved
loop-left-preserved c =
    let m = c.loop-left.count in
    record {
      few = omega (
        arith,
        cut-shorter _ _ _ c.cut_first.ensures,
        ap (λ (o : Option (Bor (List ℕ))). left_len (option_copied o)) c.in-Some.is,
        c.loop-left.invariant.few,
      );
      all =
          parts-counted m _ _ _ _ c.cut_first.ensures c.in_ok-count_pieces.ensures
          ∙ (ap (λ (o : Option (Bor (List ℕ))). option_map {U = ℕ} (λ ps. m + length ps)
          (pieces_of (cut_left 47 (option_copied o)))) (sym c.in-Some.is)
          ∙ c.loop-left.invariant.all);
    }

pub returns : goal.returns
returns c =
    let m = c.loop-left.count in
    parts-counted_all m
    ∙ (ap (λ (o : Option (Bor (List ℕ))). option_map {U = ℕ} (λ ps. m + length ps)
    (pieces_of (cut_left 47 (option_copied o)))) (sym c.in_default.is)
    ∙ c.loop-left.invariant.all)
