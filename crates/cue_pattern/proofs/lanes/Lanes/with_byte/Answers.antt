use Rattle.std.proofs.Common.{sym, ◌∙◌}
use Rattle.cue_pattern.proofs.LaneLemmas.{zero-row}
use Rattle.cue_pattern.proofs.LaneTableLemmas.{no-letter}
use Rattle.cue_pattern.proofs.lanes.Lanes.with_byte.Goals as goal

pub returns-else-is_letter : goal.returns-else-is_letter
returns-else-is_letter c = λ j text h k l.
    no-letter c.args.b (sym c.is_letter.ensures ∙ c.if-is_letter.false) j _ text k (zero-row k) h.known
