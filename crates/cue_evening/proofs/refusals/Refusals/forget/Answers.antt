use Rattle.std.proofs.Common.{rules}
use Rattle.std.proofs.lemmas.Fn.{filter_same}
use Rattle.cue_evening.specs.Refusals.{is_fresh}
use Rattle.cue_evening.proofs.refusals.Refusals.forget.Goals as goal

pub returns-clause-told : goal.returns-clause-told
returns-clause-told c = filter_same _ (is_fresh c.args.now) _ (λ x b after h. search rules) _ _ c.retain.ensures.filtered
