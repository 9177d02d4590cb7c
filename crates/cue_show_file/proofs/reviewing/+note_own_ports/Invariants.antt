use Rattle.std.proofs.Common.{length}
use Rattle.cue_show_file.proofs.reviewing.+note_own_ports.Given as goal

abbrev pub decreases-note_own_ports : goal.decreases-note_own_ports
decreases-note_own_ports l = length l.entries.now
