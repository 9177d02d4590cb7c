use Rattle.cue_order_words.proofs.LawLemmas.{refused-is-replied}
use Rattle.cue_order_words.proofs.laws.refused_is_replied.Goals as goal

pub returns : goal.returns
returns c = refused-is-replied
