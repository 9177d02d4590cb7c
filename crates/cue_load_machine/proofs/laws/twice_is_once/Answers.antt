use Rattle.cue_load_machine.proofs.TwiceLemmas.{twice-is-once}
use Rattle.cue_load_machine.proofs.laws.twice_is_once.Goals as goal

pub returns : goal.returns
returns c = twice-is-once
