use Rattle.std.proofs.Common.{rules}
use Rattle.std.proofs.lemmas.Fn.{filter_same}
use Rattle.cue_station.specs.Keeping.{is_other}
use Rattle.cue_station.proofs.keeping.leave_others.Goals as goal

-- src/keeping.rt
pub returns : goal.returns
returns c = filter_same _ (is_other c.args.old.now) _ (λ x b after h. search rules) _ _ c.retain.ensures.filtered
