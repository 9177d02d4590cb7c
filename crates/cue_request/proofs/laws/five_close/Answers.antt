use Rattle.cue_request.proofs.LockLemmas.{five-close}
use Rattle.cue_request.proofs.laws.five_close.Goals as goal

pub returns : goal.returns
returns c = five-close
