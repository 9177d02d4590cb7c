use Rattle.cue_load_machine.proofs.PlanLemmas.{sent-by-the-plan}
use Rattle.cue_load_machine.proofs.laws.sent_by_the_plan.Goals as goal

pub returns : goal.returns
returns c = sent-by-the-plan c.each_step_is_taken.ensures
