use Rattle.cue_connection.proofs.LifeLemmas.{keeps-little}
use Rattle.cue_connection.proofs.laws.keeps_little.Goals as goal

pub returns : goal.returns
returns c = keeps-little
