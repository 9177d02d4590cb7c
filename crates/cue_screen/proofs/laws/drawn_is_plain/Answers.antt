use Rattle.cue_screen.proofs.PlainLemmas.{drawn-is-plain}
use Rattle.cue_screen.proofs.laws.drawn_is_plain.Goals as goal

pub returns : goal.returns
returns c = drawn-is-plain
