use Rattle.cue_exchange.proofs.HolderLemmas.{holders-none}
use Rattle.cue_exchange.proofs.holders.+holders_of.Goals as goal

pub returns-in-empty : goal.returns-in-empty
returns-in-empty t c = holders-none _ c.args.attempts.now c.in-empty.len_below c.no_holders.ensures
