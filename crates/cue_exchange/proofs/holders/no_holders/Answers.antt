use Rattle.std.proofs.Common.{arith}
use Rattle.std.proofs.lemmas.List.{get_or-replicate}
use Rattle.cue_exchange.proofs.holders.no_holders.Goals as goal

pub returns : goal.returns
returns c = λ d below. get_or-replicate 112 d 0 0 (omega arith)
