use Rattle.std.proofs.Common.{length}
use Rattle.cue_loading.proofs.entries.+same_cues.Given as goal

abbrev pub decreases-same_cues : goal.decreases-same_cues
decreases-same_cues l = length l.cues.now
