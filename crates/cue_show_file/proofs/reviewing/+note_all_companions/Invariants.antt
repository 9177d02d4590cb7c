use Rattle.std.proofs.Common.{length}
use Rattle.cue_show_file.proofs.reviewing.+note_all_companions.Given as goal

abbrev pub decreases-note_all_companions : goal.decreases-note_all_companions
decreases-note_all_companions l = length l.rest.now
