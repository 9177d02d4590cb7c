use Rattle.cue_load_machine.proofs.OftenLemmas.{sent-as-often-as-may-be}
use Rattle.cue_load_machine.proofs.laws.sent_as_often_as_may_be.Goals as goal

pub returns : goal.returns
returns c = sent-as-often-as-may-be
