use Rattle.cue_load_words.proofs.CopyLemmas.{copies-are-apart}
use Rattle.cue_load_words.proofs.laws.copies_are_apart.Goals as goal

pub returns : goal.returns
returns c = copies-are-apart
