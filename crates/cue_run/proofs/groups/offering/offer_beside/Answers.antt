use Rattle.std.proofs.Common.{length, vec_len, sym, ◌∙◌}
use Rattle.cue_run.proofs.OfferLemmas.{fits_after}
use Rattle.cue_run.proofs.groups.offering.offer_beside.Goals as goal

-- there was room for it
pub returns-clause-fits : goal.returns-clause-fits
returns-clause-fits g c =
    fits_after (length c.args.buffer.now) (vec_len c.args.ends.now) (vec_len c.offer_waiting.new.ends)
    c.offer_waiting.result c.args.engine.now c.offer_waiting.new.engine (g.S.Source.left c.args.source.now)
    (g.S.Source.left c.offer_waiting.new.source) (sym c.has_room.ensures ∙ c.if-not-has_room.false)
    c.offer_waiting.ensures.offered
