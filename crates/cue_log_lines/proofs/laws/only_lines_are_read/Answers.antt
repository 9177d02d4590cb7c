use Rattle.cue_log_lines.proofs.LineLemmas.{only-lines-are-read}
use Rattle.cue_log_lines.proofs.laws.only_lines_are_read.Goals as goal

pub returns : goal.returns
returns c = only-lines-are-read
