use Rattle.std.proofs.Common.{arith}
use Rattle.std.proofs.lemmas.List.Edits.{map_over_more}
use Rattle.cue_exchange.specs.Answers.{enters}
use Rattle.cue_exchange.proofs.answers.enter_stage.Goals as goal

pub loop-item-preserved : goal.loop-item-preserved
loop-item-preserved c =
    rw (c.enter.ensures, ← c.item-item.is)
    (map_over_more (enters c.args.stage) c.deref_mut-item-items.result.now c.loop-item.item-items c.loop-item.item-index
    c.item-item.result
    (omega arith) c.loop-item.invariant c.item-item.is)
