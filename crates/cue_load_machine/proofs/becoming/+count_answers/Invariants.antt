use Rattle.std.proofs.Common.{length}
use Rattle.cue_load_machine.proofs.becoming.+count_answers.Given as goal

abbrev pub decreases-count_answers : goal.decreases-count_answers
decreases-count_answers l = length l.answers.now
