use Rattle.cue_stage.proofs.OnceLemmas.{moves_once}
use Rattle.cue_stage.proofs.laws.moves_once.Goals as goal

pub returns : goal.returns
returns c = moves_once
