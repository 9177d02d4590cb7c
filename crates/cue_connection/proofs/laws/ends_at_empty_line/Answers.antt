use Rattle.cue_connection.proofs.ScanningLemmas.{ends-at_empty_line}
use Rattle.cue_connection.proofs.laws.ends_at_empty_line.Goals as goal

pub returns : goal.returns
returns c = ends-at_empty_line
