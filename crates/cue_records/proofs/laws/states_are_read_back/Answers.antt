use Rattle.cue_records.proofs.StateLemmas.{read_back}
use Rattle.cue_records.proofs.laws.states_are_read_back.Goals as goal

pub returns : goal.returns
returns c = read_back
