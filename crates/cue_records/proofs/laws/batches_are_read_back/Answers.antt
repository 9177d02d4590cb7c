use Rattle.cue_records.proofs.BatchLemmas.{read_back}
use Rattle.cue_records.proofs.laws.batches_are_read_back.Goals as goal

pub returns : goal.returns
returns c = read_back
