use Rattle.cue_load_words.proofs.CopyLemmas.{copies-are-found}
use Rattle.cue_load_words.proofs.laws.copies_are_found.Goals as goal

pub returns : goal.returns
returns c = copies-are-found
