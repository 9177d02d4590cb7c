use Rattle.cue_relay_machine.proofs.LawLemmas.{copies-only-goes}
use Rattle.cue_relay_machine.proofs.laws.copies_only_goes.Goals as goal

pub returns : goal.returns
returns c = copies-only-goes
