use Rattle.cue_load_words.proofs.EndingLemmas.{refused-is-counted}
use Rattle.cue_load_words.proofs.laws.refused_is_counted.Goals as goal

pub returns : goal.returns
returns c = refused-is-counted
