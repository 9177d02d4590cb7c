use Rattle.cue_load_words.proofs.EndingLemmas.{silence-is-no-success}
use Rattle.cue_load_words.proofs.laws.silence_is_no_success.Goals as goal

pub returns : goal.returns
returns c = silence-is-no-success
