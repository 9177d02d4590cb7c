use Rattle.cue_records.proofs.LongestLemmas.{state_short}
use Rattle.cue_records.proofs.laws.state_texts_are_bounded.Goals as goal

pub returns : goal.returns
returns c = state_short
