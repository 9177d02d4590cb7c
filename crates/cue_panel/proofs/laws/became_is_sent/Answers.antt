use Rattle.cue_panel.proofs.WishLemmas.{became-is_sent}
use Rattle.cue_panel.proofs.laws.became_is_sent.Goals as goal

pub returns : goal.returns
returns c = became-is_sent
