use Rattle.cue_order_words.proofs.LawLemmas.{nobody-is-said}
use Rattle.cue_order_words.proofs.laws.nobody_is_said.Goals as goal

pub returns : goal.returns
returns c = nobody-is-said
