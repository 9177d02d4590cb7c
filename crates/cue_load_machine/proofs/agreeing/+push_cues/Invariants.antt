use Rattle.std.proofs.Common.{length}
use Rattle.cue_load_machine.proofs.agreeing.+push_cues.Given as goal

-- one attempt less
abbrev pub decreases-push_cues : goal.decreases-push_cues
decreases-push_cues l = length l.attempts.now
