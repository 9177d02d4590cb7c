use Rattle.cue_load_words.proofs.EndingLemmas.{refused-is-named}
use Rattle.cue_load_words.proofs.laws.refused_is_named.Goals as goal

pub returns : goal.returns
returns c = refused-is-named
