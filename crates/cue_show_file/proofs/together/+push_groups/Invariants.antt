use Rattle.std.proofs.Common.{length}
use Rattle.cue_show_file.proofs.together.+push_groups.Given as goal

abbrev pub decreases-push_groups : goal.decreases-push_groups
decreases-push_groups l = length l.rest.now
