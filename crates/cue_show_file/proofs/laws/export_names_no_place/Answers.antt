use Rattle.cue_show_file.proofs.SaidLemmas.{export-names_no_place}
use Rattle.cue_show_file.proofs.laws.export_names_no_place.Goals as goal

pub returns : goal.returns
returns c = export-names_no_place
