use Rattle.cue_panel.proofs.WishLemmas.{sent-once}
use Rattle.cue_panel.proofs.laws.sent_once.Goals as goal

pub returns : goal.returns
returns c = sent-once
