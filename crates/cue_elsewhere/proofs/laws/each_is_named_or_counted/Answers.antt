use Rattle.cue_elsewhere.proofs.CountLemmas.{named-or-counted}
use Rattle.cue_elsewhere.proofs.laws.each_is_named_or_counted.Goals as goal

pub returns : goal.returns
returns c = named-or-counted
