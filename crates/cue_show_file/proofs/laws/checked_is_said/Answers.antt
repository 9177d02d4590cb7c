use Rattle.cue_show_file.proofs.ReadingLemmas.{checked-is_said}
use Rattle.cue_show_file.proofs.laws.checked_is_said.Goals as goal

pub returns : goal.returns
returns c = checked-is_said
