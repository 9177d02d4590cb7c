use Rattle.cue_words.proofs.NumberLemmas.{numbers-say-their-codes}
use Rattle.cue_words.proofs.laws.numbers_say_their_codes.Goals as goal

pub returns : goal.returns
returns c = numbers-say-their-codes
