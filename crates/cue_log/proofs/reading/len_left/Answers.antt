use Rattle.std.proofs.Common.{◌∙◌}
use Rattle.cue_log.proofs.StepLemmas.{bytes_behind_next}
use Rattle.cue_log.proofs.reading.len_left.Goals as goal

pub loop-gate-preserved : goal.loop-gate-preserved
loop-gate-preserved c =
    bytes_behind_next c.loop-gate.rest.now c.in-Some.after.now c.in_ok-behind.field-0-0.now c.in_ok-behind.behind.now
    c.in-Some.gate.now
    c.in-Some.ensures.cases.0 c.if-gate-ne-OPEN.false c.in_ok-behind.ensures.frame
    ∙ c.loop-gate.invariant
