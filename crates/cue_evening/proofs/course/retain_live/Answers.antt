use Rattle.std.proofs.Common.{rules}
use Rattle.std.proofs.lemmas.Fn.{filter_same}
use Rattle.cue_evening.specs.Course.{is_followed}
use Rattle.cue_evening.proofs.course.retain_live.Goals as goal

pub returns : goal.returns
returns c = filter_same _ (is_followed c.args.state.now) _ (λ x b after h. search rules) _ _ c.retain.ensures.filtered
