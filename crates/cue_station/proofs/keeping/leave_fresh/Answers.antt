use Rattle.std.proofs.Common.{rules}
use Rattle.std.proofs.lemmas.Fn.{filter_same}
use Rattle.cue_station.specs.Keeping.{is_fresh}
use Rattle.cue_station.proofs.keeping.leave_fresh.Goals as goal

-- src/keeping.rt
pub returns : goal.returns
returns c =
    filter_same _ (is_fresh c.args.acknowledged.now c.args.kept.now) _ (λ x b after h. search rules) _ _
    c.retain.ensures.filtered
