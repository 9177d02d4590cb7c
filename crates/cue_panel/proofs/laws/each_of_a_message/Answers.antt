use Rattle.cue_panel.proofs.LawLemmas.{each-of_message}
use Rattle.cue_panel.proofs.laws.each_of_a_message.Goals as goal

pub returns : goal.returns
returns c = each-of_message
