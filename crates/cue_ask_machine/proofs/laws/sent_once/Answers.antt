use Rattle.cue_ask_machine.proofs.LawLemmas.{sent-once}
use Rattle.cue_ask_machine.proofs.laws.sent_once.Goals as goal

pub returns : goal.returns
returns c = sent-once
