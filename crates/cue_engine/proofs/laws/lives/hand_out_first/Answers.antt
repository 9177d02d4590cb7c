use Rattle.std.proofs.Common.{ap}
use Rattle.cue_keeper.specs.Observed as keeper
use Rattle.cue_engine.proofs.LifeLemmas.{lives_handed_some, handed_some_of_it}
use Rattle.cue_engine.proofs.laws.lives.hand_out_first.Goals as goal

pub returns-clause-handed_some : goal.returns-clause-handed_some
returns-clause-handed_some g c = λ life runs. lives_handed_some c.args.engine.now c.hand_out_first.new.self runs
    c.args.most (ap keeper.state_of c.hand_out_first.ensures.keeper) c.hand_out_first.ensures.left

pub returns-clause-handed : goal.returns-clause-handed
returns-clause-handed g c = λ life runs. rw (← handed_some_of_it c.args.most runs) c.hand_out_first.ensures.handed
