use Rattle.cue_osc.proofs.WrittenLemmas.{text_spells}
use Rattle.cue_osc.proofs.laws.written_is_spelled.Goals as goal

pub returns : goal.returns
returns c = text_spells
