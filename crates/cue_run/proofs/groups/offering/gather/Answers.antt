use Rattle.std.proofs.Common.{refl, ◌∙◌, arith}
use Rattle.cue_run.proofs.OfferLemmas.{offers_none, offers_join}
use Rattle.cue_run.proofs.groups.offering.gather.Goals as goal

pub loop-count-init : goal.loop-count-init
loop-count-init g c = (offers_none, c.requires.one, refl, refl, λ fits. fits)

pub loop-count-preserved : goal.loop-count-preserved
loop-count-preserved g c =
    let now = c.loop-count.invariant in
    let said = c.offer_beside.ensures in
    let next = rw (c.in-Ok-true.field-0-test, now.3) at c.in-Ok-true.ensures.offered in (
      offers_join now.0 next.0,
      omega (arith, next.1, now.1),
      said.capacity ∙ now.2,
      c.offer_beside.auto.buffer ∙ now.3,
      λ before. said.fits (now.4 before),
    )
