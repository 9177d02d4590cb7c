use Rattle.cue_relay.proofs.MotionLemmas.{moves-until-it-answers}
use Rattle.cue_relay.proofs.laws.moves_until_it_answers.Goals as goal

pub returns : goal.returns
returns c = moves-until-it-answers
