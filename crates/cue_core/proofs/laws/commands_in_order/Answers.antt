use Rattle.cue_core.proofs.history.HappeningLemmas.{commands-in-order}
use Rattle.cue_core.proofs.laws.commands_in_order.Goals as goal

pub returns : goal.returns
returns c = commands-in-order
