use Rattle.cue_keeper.proofs.StandingLemmas.{is_a_batch}
use Rattle.cue_engine.proofs.offers.offer_first.Goals as goal

pub of_heard-requires-clause-batch : goal.of_heard-requires-clause-batch
of_heard-requires-clause-batch c = λ some. is_a_batch c.args.kept.now c.in_ok-heard.heard.batch.items
    c.last_seq-last.ensures.rules c.in_ok-heard.ensures.acceptable some c.in_ok-heard.ensures.fits.most
