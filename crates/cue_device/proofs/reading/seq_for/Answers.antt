use Rattle.std.proofs.Common.{arith, ◌∙◌}
use Rattle.cue_device.proofs.ReadingLemmas.{two_numbers}
use Rattle.cue_device.proofs.reading.seq_for.Goals as goal

pub returns-then-device-from-clause-found : goal.returns-then-device-from-clause-found
returns-then-device-from-clause-found c =
    let same = c.if-device-from.true ∙ c.from.ensures ∙ c.number.ensures.value in
    let text = two_numbers c.args.bytes.now c.in_ok-seq.rest.now c.in_ok-device.rest.now c.in_ok-seq.seq c.args.number
    c.in_ok-device.device (λ i. omega (arith, c.type_inv.bytes i)) c.in_ok-seq.ensures c.in_ok-device.ensures
    same in
    (text, (c.if-seq-ge1.true, c.if-seq-le-MAX_NUMBER.true))
