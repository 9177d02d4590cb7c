use Rattle.cue_load_words.proofs.EndingLemmas.{done-is-loaded}
use Rattle.cue_load_words.proofs.laws.done_is_loaded.Goals as goal

pub returns : goal.returns
returns c = done-is-loaded
