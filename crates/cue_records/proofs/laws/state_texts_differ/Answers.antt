use Rattle.cue_records.proofs.StateLemmas.{texts_differ}
use Rattle.cue_records.proofs.laws.state_texts_differ.Goals as goal

pub returns : goal.returns
returns c = texts_differ
