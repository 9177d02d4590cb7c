use Rattle.cue_operator.proofs.ByPartsLemmas.{matched-by_parts}
use Rattle.cue_operator.proofs.laws.matched_by_parts.Goals as goal

pub returns : goal.returns
returns c = matched-by_parts
