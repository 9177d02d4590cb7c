use Rattle.std.proofs.Common.{arith}
use Rattle.cue_show.proofs.PaddedLemmas.{IsPadded-copied}
use Rattle.cue_show.proofs.short_bytes.ShortBytes.read.Goals as goal

pub invariant_of-result : goal.invariant_of-result
invariant_of-result g c = rw c.copy_from_slice.ensures.after (IsPadded-copied _ c.args.bytes.now (omega arith))
