use Rattle.cue_panel.proofs.WishLemmas.{each-is_meant}
use Rattle.cue_panel.proofs.laws.each_is_meant.Goals as goal

pub returns : goal.returns
returns c = each-is_meant
