use Rattle.cue_show_file.proofs.SaidLemmas.{export-says_the_show}
use Rattle.cue_show_file.proofs.laws.export_says_the_show.Goals as goal

pub returns : goal.returns
returns c = export-says_the_show
