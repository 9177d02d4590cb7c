use Rattle.cue_request.proofs.LockLemmas.{taken-says_the_word}
use Rattle.cue_request.proofs.laws.taken_says_the_word.Goals as goal

pub returns : goal.returns
returns c = taken-says_the_word
