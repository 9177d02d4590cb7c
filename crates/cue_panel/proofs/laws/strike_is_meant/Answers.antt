use Rattle.cue_panel.proofs.LawLemmas.{strike-is_meant}
use Rattle.cue_panel.proofs.laws.strike_is_meant.Goals as goal

pub returns : goal.returns
returns c = strike-is_meant
