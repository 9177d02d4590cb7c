use Rattle.std.proofs.Common.{length}
use Rattle.cue_core.proofs.state.+are_of_parts.Given as goal

abbrev pub decreases-are_of_parts : goal.decreases-are_of_parts
decreases-are_of_parts l = length l.parts.now
