use Rattle.std.proofs.Common.{rules}
use Rattle.std.proofs.lemmas.Fn.{filter_same}
use Rattle.cue_station.specs.Keeping.{stays}
use Rattle.cue_station.proofs.keeping.leave_staying.Goals as goal

-- src/keeping.rt
pub returns : goal.returns
returns c =
    filter_same _ (stays c.args.acknowledged.now c.args.reading.now c.args.fresh.now) _ (λ x b after h. search rules) _ _
    c.retain.ensures.filtered
