use Rattle.std.proofs.Common.{length}
use Rattle.cue_request.proofs.fields.+has_many.Given as goal

abbrev pub decreases-has_many : goal.decreases-has_many
decreases-has_many l = length l.fields.now
