use Rattle.std.proofs.Common.{ap}
use Rattle.cue_keeper.specs.Observed as keeper
use Rattle.cue_engine.proofs.LifeLemmas.{lives_handed}
use Rattle.cue_engine.proofs.laws.lives.hand_out.Goals as goal

pub returns-clause-handed_out : goal.returns-clause-handed_out
returns-clause-handed_out g c = λ life runs. lives_handed c.args.engine.now c.hand_out.new.self runs
    (ap keeper.state_of c.hand_out.ensures.keeper) c.hand_out.ensures.emptied
