use Rattle.cue_report.proofs.LawLemmas.{only_said_is_told}
use Rattle.cue_report.proofs.laws.only_said_is_told.Goals as goal

pub returns : goal.returns
returns c = only_said_is_told
