use Rattle.cue_log.proofs.CompleteLemmas.{unique}
use Rattle.cue_log.proofs.laws.one_area.Goals as goal

pub returns : goal.returns
returns c = unique
