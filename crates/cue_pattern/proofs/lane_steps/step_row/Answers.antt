use Rattle.std.proofs.Common.{◌∙◌, set, arith, get_or-set_other}
use Rattle.cue_pattern.proofs.LaneLemmas.{row-reaches, set-zero}
use Rattle.cue_pattern.proofs.lane_steps.step_row.Goals as goal

pub returns : goal.returns
returns c = λ j text test rest short marks h.
    let row = c.loop-k.reached in
    row-reaches j text test rest c.args.row.now c.args.reached.now (set row 16 0) short marks h
    (λ k l. get_or-set_other row 16 k 0 0 (omega arith) ∙ c.loop-k.invariant.moved k (omega arith))
    (set-zero row 16)
    (λ k l. get_or-set_other row 16 k 0 0 (omega arith) ∙ c.loop-k.invariant.ahead k (omega arith))
