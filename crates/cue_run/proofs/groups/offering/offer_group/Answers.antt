use Rattle.std.proofs.Common.{arith}
use Rattle.cue_run.proofs.OfferLemmas.{gathered_after}
use Rattle.cue_run.proofs.groups.offering.offer_group.Goals as goal

pub returns-in-Ok-Datagram-true-clause-offered : goal.returns-in-Ok-Datagram-true-clause-offered
returns-in-Ok-Datagram-true-clause-offered g c =
    let more = rw c.offer_first.auto.buffer at c.gather.ensures.gathered in
    let first = rw c.in-Ok-Datagram-true.field-0-is at c.in-Ok-Datagram-true.ensures.offered in (
      rw c.requires.none at (gathered_after first.0 more),
      omega (arith, c.requires.none, first.1, more.offered.number),
      c.gather.ensures.at_most,
      λ room. c.gather.ensures.fits (first.2 room),
    )
