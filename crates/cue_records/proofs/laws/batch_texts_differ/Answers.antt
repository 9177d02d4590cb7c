use Rattle.cue_records.proofs.BatchLemmas.{texts_differ}
use Rattle.cue_records.proofs.laws.batch_texts_differ.Goals as goal

pub returns : goal.returns
returns c = texts_differ
