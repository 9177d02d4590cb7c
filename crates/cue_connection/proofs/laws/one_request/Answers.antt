use Rattle.cue_connection.proofs.LifeLemmas.{one-request}
use Rattle.cue_connection.proofs.laws.one_request.Goals as goal

pub returns : goal.returns
returns c = one-request
