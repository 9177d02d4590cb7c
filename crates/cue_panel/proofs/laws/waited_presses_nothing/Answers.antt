use Rattle.cue_panel.proofs.LawLemmas.{waited-presses_nothing}
use Rattle.cue_panel.proofs.laws.waited_presses_nothing.Goals as goal

pub returns : goal.returns
returns c = waited-presses_nothing
