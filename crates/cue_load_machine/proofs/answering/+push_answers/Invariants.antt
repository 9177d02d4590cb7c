use Rattle.std.proofs.Common.{length}
use Rattle.cue_load_machine.proofs.answering.+push_answers.Given as goal

abbrev pub decreases-push_answers : goal.decreases-push_answers
decreases-push_answers l = length l.told.now
