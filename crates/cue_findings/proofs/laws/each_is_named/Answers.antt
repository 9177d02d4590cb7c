use Rattle.cue_findings.proofs.CheckingLemmas.{each-is_named}
use Rattle.cue_findings.proofs.laws.each_is_named.Goals as goal

pub returns : goal.returns
returns c = each-is_named
