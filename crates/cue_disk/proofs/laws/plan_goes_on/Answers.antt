use Rattle.cue_disk.proofs.PlannedLemmas.{plan_goes_on}
use Rattle.cue_disk.proofs.laws.plan_goes_on.Goals as goal

pub returns : goal.returns
returns c = plan_goes_on
