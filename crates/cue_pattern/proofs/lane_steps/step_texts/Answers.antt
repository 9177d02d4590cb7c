use Rattle.std.proofs.Common.{arith, ap, length}
use Rattle.cue_pattern.proofs.LaneLemmas.{texts-reach, item-of}
use Rattle.cue_pattern.proofs.lane_steps.step_texts.Goals as goal

pub loop-text-preserved : goal.loop-text-preserved
loop-text-preserved c = λ j name rest st h.
    texts-reach c.args.texts.now c.text-item.result c.loop-text.text-index rest name j c.join.new.reached
    (omega (arith, ap length c.items-text-items.ensures)) (item-of c.args.texts.now c.items-text-items.result.now c.text-item.result c.loop-text.text-index
    c.items-text-items.ensures c.text-item.is)
    (c.join.ensures j name _ _ st.long (c.loop-text.invariant j name rest st h) (c.step_text.ensures j name rest st h))
