use Rattle.cue_report.proofs.CsvLemmas.{cells-are-read-back}
use Rattle.cue_report.proofs.laws.cells_are_read_back.Goals as goal

pub returns : goal.returns
returns c = cells-are-read-back
