use Rattle.cue_relay_words.proofs.PlanLemmas.{each-has-its-port}
use Rattle.cue_relay_words.proofs.laws.each_has_its_port.Goals as goal

pub returns : goal.returns
returns c = each-has-its-port
