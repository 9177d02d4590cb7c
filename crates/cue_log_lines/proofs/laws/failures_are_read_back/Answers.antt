use Rattle.cue_log_lines.proofs.ListedLemmas.{failures-are-read-back}
use Rattle.cue_log_lines.proofs.laws.failures_are_read_back.Goals as goal

pub returns : goal.returns
returns c = failures-are-read-back
