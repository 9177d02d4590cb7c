use Rattle.std.proofs.Common.{subst}
use Rattle.std.specs.Prelude.{IfSome}
use Rattle.cue_load_words.specs.Planned.{IsPlannedFrom}
use Rattle.cue_load_words.proofs.PlanLemmas.{planned_with}
use Rattle.cue_load_words.proofs.planning.planned_from.Goals as goal

pub returns-in-Ok-clause-planned : goal.returns-in-Ok-clause-planned
returns-in-Ok-clause-planned c =
    subst (λ s. IfSome c.in-Ok.planned (IsPlannedFrom c.args.port c.args.manner c.args.file.now s)) c.show-show.ensures
    (planned_with _ _ _ _ _ _ c.in_ok-copied.ensures c.in-Ok.ensures.planned)
