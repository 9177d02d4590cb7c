use Rattle.cue_connection.proofs.PieceLemmas.{any-pieces}
use Rattle.cue_connection.proofs.laws.any_pieces.Goals as goal

pub returns : goal.returns
returns c = any-pieces
