use Rattle.cue_desk.proofs.TakenLemmas.{checked-is_taken}
use Rattle.cue_desk.proofs.laws.checked_is_taken.Goals as goal

pub returns : goal.returns
returns c = checked-is_taken
