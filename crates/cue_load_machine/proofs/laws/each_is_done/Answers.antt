use Rattle.cue_load_machine.proofs.DoneLemmas.{each-is-done}
use Rattle.cue_load_machine.proofs.laws.each_is_done.Goals as goal

pub returns : goal.returns
returns c = each-is-done
