use Rattle.std.proofs.Common.{length}
use Rattle.cue_show_file.proofs.reviewing.+note_addresses.Given as goal

abbrev pub decreases-note_addresses : goal.decreases-note_addresses
decreases-note_addresses l = length l.entries.now
