use Rattle.cue_findings.proofs.CheckingLemmas.{hints-refuse_nothing}
use Rattle.cue_findings.proofs.laws.hints_refuse_nothing.Goals as goal

pub returns : goal.returns
returns c = hints-refuse_nothing
