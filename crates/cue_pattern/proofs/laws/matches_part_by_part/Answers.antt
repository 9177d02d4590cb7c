use Rattle.cue_pattern.proofs.PartsLemmas.{matches-part_by_part}
use Rattle.cue_pattern.proofs.laws.matches_part_by_part.Goals as goal

pub returns : goal.returns
returns c = matches-part_by_part
