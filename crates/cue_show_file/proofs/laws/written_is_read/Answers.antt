use Rattle.cue_show_file.proofs.DefinedLemmas.{written-is_read}
use Rattle.cue_show_file.proofs.laws.written_is_read.Goals as goal

pub returns : goal.returns
returns c = written-is_read
