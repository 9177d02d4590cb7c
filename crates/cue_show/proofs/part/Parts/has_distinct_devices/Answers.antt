-- Each number is marked where it stands first, and found where it stands again.
use Rattle.std.proofs.Common.{sym, ap, ◌∙◌, arith}
use Rattle.cue_show.specs.Devices.{distinct, devices_in}
use Rattle.cue_show.proofs.SeenLemmas.{IsSeen-none, IsSeen-next, distinct-marked}
use Rattle.cue_show.proofs.part.Parts.has_distinct_devices.Goals as goal

pub loop-part-init : goal.loop-part-init
loop-part-init c = IsSeen-none

pub returns-then-seen-device : goal.returns-then-seen-device
returns-then-seen-device c =
    sym (distinct-marked c.loop-part.seen c.as_slice-part-items.result.now c.loop-part.part-index c.part-item.result
    c.from-device.result
    c.loop-part.invariant c.loop-part-test.true c.part-item.is (c.from-device.ensures ∙ c.number.ensures.value)
    (omega arith) c.if-seen-device.true)
    ∙ ap (λ ps. distinct (devices_in ps)) c.as_slice-part-items.ensures

pub loop-part-preserved : goal.loop-part-preserved
loop-part-preserved c =
    IsSeen-next c.loop-part.seen c.as_slice-part-items.result.now c.loop-part.part-index c.part-item.result
    c.from-device.result
    c.loop-part.invariant c.loop-part-test.true c.part-item.is (c.from-device.ensures ∙ c.number.ensures.value)
    (omega arith) c.if-seen-device.false
