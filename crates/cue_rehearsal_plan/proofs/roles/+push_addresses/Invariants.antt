use Rattle.std.proofs.Common.{length}
use Rattle.cue_rehearsal_plan.proofs.roles.+push_addresses.Given as goal

-- one less
abbrev pub decreases-push_addresses : goal.decreases-push_addresses
decreases-push_addresses l = length l.all.now
