use Rattle.cue_findings.proofs.CheckingLemmas.{mistake-refuses}
use Rattle.cue_findings.proofs.laws.mistake_refuses.Goals as goal

pub returns : goal.returns
returns c = mistake-refuses
