use Rattle.cue_device_c.proofs.LifeLemmas.{lives_made, lives_restarted}
use Rattle.cue_device_c.proofs.laws.lives_over_calls.Goals as goal

pub returns-clause-made : goal.returns-clause-made
returns-clause-made c = λ number given first ss le made life. lives_made number given first ss le made life

pub returns-clause-restarted : goal.returns-clause-restarted
returns-clause-restarted c =
    λ number kept given from made ss le is life. lives_restarted number kept given from made ss le is life
