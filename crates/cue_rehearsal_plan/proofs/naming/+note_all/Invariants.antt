use Rattle.std.proofs.Common.{length}
use Rattle.cue_rehearsal_plan.proofs.naming.+note_all.Given as goal

-- one less
abbrev pub decreases-note_all : goal.decreases-note_all
decreases-note_all l = length l.devices.now
