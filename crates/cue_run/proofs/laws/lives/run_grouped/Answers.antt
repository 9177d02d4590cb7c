use Rattle.cue_run.proofs.LivesLemmas.{goes_through, ends_at_rest}
use Rattle.cue_run.proofs.laws.lives.run_grouped.Goals as goal

pub returns-clause-goes_on : goal.returns-clause-goes_on
returns-clause-goes_on g c = goes_through c.run_grouped.ensures.ran

pub returns-clause-rests : goal.returns-clause-rests
returns-clause-rests g c = λ sound life. ends_at_rest c.run_grouped.ensures.ran life sound
