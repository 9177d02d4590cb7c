use Rattle.std.proofs.Common.{arith}
use Rattle.cue_engine.proofs.WireLemmas.{handed_step, counted, not_counted, handed_first, left_first}
use Rattle.cue_engine.proofs.handing.send_some.Goals as goal
use Rattle.cue_engine.proofs.handing.send_some.Goals.{then-send_first, else-send_first}

pub loop-sent-preserved : goal.loop-sent-preserved
loop-sent-preserved g c =
    let l = c.loop-sent in
    let f = c.send_first.result in
    handed_step (elim c.if-send_first.branch [
      | then-send_first w ↦ counted l.refused c.if-send_first.refused f w.if-send_first.true w.refused-is
      | else-send_first w ↦ not_counted l.refused c.if-send_first.refused f w.if-send_first.false w.refused-is
    ]) c.send_first.ensures l.invariant

pub returns-clause-left : goal.returns-clause-left
returns-clause-left g c = left_first c.args.most (omega (arith, c.loop-sent.invariant.1)) c.loop-sent.invariant.0

pub returns-clause-handed : goal.returns-clause-handed
returns-clause-handed g c = handed_first c.args.most (omega (arith, c.loop-sent.invariant.1)) c.loop-sent.invariant.0
