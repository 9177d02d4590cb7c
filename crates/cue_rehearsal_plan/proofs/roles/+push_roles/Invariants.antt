use Rattle.std.proofs.Common.{length}
use Rattle.cue_rehearsal_plan.proofs.roles.+push_roles.Given as goal

-- one less
abbrev pub decreases-push_roles : goal.decreases-push_roles
decreases-push_roles l = length l.entries.now
