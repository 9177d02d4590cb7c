use Rattle.cue_log_lines.proofs.LineLemmas.{lines-differ}
use Rattle.cue_log_lines.proofs.laws.lines_differ.Goals as goal

pub returns : goal.returns
returns c = lines-differ
