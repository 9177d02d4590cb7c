use Rattle.cue_core.proofs.history.HappeningLemmas.{commands-make-histories}
use Rattle.cue_core.proofs.laws.commands_make_histories.Goals as goal

pub returns : goal.returns
returns c = commands-make-histories
