use Rattle.cue_show.proofs.ChangeLemmas.{found_parts}
use Rattle.cue_show.proofs.show.Show.parts.Goals as goal

pub returns-clause-cue : goal.returns-clause-cue
returns-clause-cue c = found_parts _ _ c.args.cue c.get.result c.self.view_is c.self.invariant c.get.ensures.value
