use Rattle.cue_panel.proofs.LawLemmas.{waited-is_counted}
use Rattle.cue_panel.proofs.laws.waited_is_counted.Goals as goal

pub returns : goal.returns
returns c = waited-is_counted
