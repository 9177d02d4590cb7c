use Rattle.cue_pattern.specs.Matching.{takes}
use Rattle.cue_pattern.proofs.PositionsLemmas.{bytewise}
use Rattle.cue_pattern.proofs.lane_steps.step_some.Goals as goal

pub returns-in-One : goal.returns-in-One
returns-in-One c = λ j name rest st h.
    rw (bytewise c.args.piece.now c.in-One.is rest)
    (c.step_row.ensures j name (takes c.args.piece.now) rest st.long (c.taken.ensures j name st) h)
