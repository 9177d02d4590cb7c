use Rattle.std.proofs.Common.{◌≡◌, Some, None, sym, ◌∙◌, rules}
use Rattle.cue_keeper.specs.Observed as kept
use Rattle.cue_engine.proofs.engine.Engine.rest.Goals as goal

-- nothing was offered
pub invariant_of-self : goal.invariant_of-self
invariant_of-self g c =
    let old = c.args.self.now in
    let step = c.follow.ensures.in_step (kept.state_of old.keeper) old.follows in
    record {
      can_follow = step.0;
      follows = step.1;
      ahead = λ some is. search rules;
      spare_follows = old.spare_follows;
    }
