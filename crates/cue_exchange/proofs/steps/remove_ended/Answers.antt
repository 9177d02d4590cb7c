use Rattle.std.proofs.Common.{rules}
use Rattle.std.proofs.lemmas.Fn.{filter_same}
use Rattle.cue_exchange.specs.Steps.{goes_on}
use Rattle.cue_exchange.proofs.steps.remove_ended.Goals as goal

pub returns : goal.returns
returns c = filter_same _ (goes_on c.args.seq) _ (λ x b after h. search rules) _ _ c.retain.ensures.filtered
