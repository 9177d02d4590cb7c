use Rattle.cue_load_words.proofs.CopyLemmas.{no-copy-is-the-file}
use Rattle.cue_load_words.proofs.laws.no_copy_is_the_file.Goals as goal

pub returns : goal.returns
returns c = no-copy-is-the-file
