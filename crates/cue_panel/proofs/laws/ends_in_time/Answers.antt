use Rattle.cue_panel.proofs.WishLemmas.{ends-in_time}
use Rattle.cue_panel.proofs.laws.ends_in_time.Goals as goal

pub returns : goal.returns
returns c = ends-in_time
