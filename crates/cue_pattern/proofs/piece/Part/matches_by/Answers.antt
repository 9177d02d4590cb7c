use Rattle.std.proofs.Common.{◌∙◌, ◌-◌, length, arith}
use Rattle.cue_pattern.proofs.PositionsLemmas.{left-start, left-more}
use Rattle.cue_pattern.proofs.piece.Part.matches_by.Goals as goal

pub loop-rest-init : goal.loop-rest-init
loop-rest-init c =
    let both = left-start c.args.self.now c.as_slice-rest.result.now c.args.text.now c.start_at_end.new.reached
    (c.as_slice-rest.ensures.value ∙ c.self.view_is) c.start_at_end.ensures in
    record { before = both.0; told = both.1 }

pub loop-rest-preserved : goal.loop-rest-preserved
loop-rest-preserved c =
    let rest = c.loop-rest.rest.now in
    let l = c.in-len1-up.len_at_least in
    let both = left-more c.args.self.now rest c.last-item.result c.args.text.now c.step.new.reached (length rest - 1)
    (omega arith) c.loop-rest.invariant.before c.last-item.is (c.step.ensures _ c.loop-rest.invariant.told) in
    record { before = both.0; told = both.1 }
