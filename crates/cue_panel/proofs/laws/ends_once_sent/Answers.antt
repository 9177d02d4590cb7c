use Rattle.cue_panel.proofs.WishLemmas.{ends-once_sent}
use Rattle.cue_panel.proofs.laws.ends_once_sent.Goals as goal

pub returns : goal.returns
returns c = ends-once_sent
