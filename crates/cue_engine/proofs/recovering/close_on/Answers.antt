use Rattle.cue_keeper.proofs.StandingLemmas.{is_a_batch}
use Rattle.cue_engine.proofs.recovering.close_on.Goals as goal

pub of_one-requires-clause-batch : goal.of_one-requires-clause-batch
of_one-requires-clause-batch c = λ some. is_a_batch c.args.kept.now c.in_ok-batch.batch.items
    c.last_seq-last.ensures.rules c.in_ok-batch.ensures.acceptable some c.in_ok-batch.ensures.fits.most
