use Rattle.std.proofs.Common.{rules}
use Rattle.std.proofs.lemmas.Fn.{filter_same}
use Rattle.cue_web.specs.Serving.{is_here}
use Rattle.cue_web.proofs.connections.drop_gone.Goals as goal

pub returns-clause-stay : goal.returns-clause-stay
returns-clause-stay c = filter_same _ is_here _ (λ x b after h. search rules) _ _ c.retain.ensures.filtered
