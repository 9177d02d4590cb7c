use Rattle.cue_show_file.proofs.DefinedLemmas.{export-is_read}
use Rattle.cue_show_file.proofs.laws.export_is_read.Goals as goal

pub returns : goal.returns
returns c = export-is_read
