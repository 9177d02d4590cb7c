use Rattle.cue_log_lines.proofs.LineLemmas.{lines-are-read-back}
use Rattle.cue_log_lines.proofs.laws.lines_are_read_back.Goals as goal

pub returns : goal.returns
returns c = lines-are-read-back
