use Rattle.cue_request.proofs.LockLemmas.{no-sixth_word}
use Rattle.cue_request.proofs.laws.no_sixth_word.Goals as goal

pub returns : goal.returns
returns c = no-sixth_word
