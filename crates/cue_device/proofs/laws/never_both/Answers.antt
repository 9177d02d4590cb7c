use Rattle.cue_device.specs.declared.words.Order.TheVariants.{Move, GiveUp}
use Rattle.cue_device.proofs.HistoryLemmas.{all_lawful}
use Rattle.cue_device.proofs.laws.never_both.Goals as goal

pub returns-clause-moving : goal.returns-clause-moving
returns-clause-moving c = λ d over q h hs k e. (all_lawful d over h hs (Move q) k e).0.1

pub returns-clause-giving_up : goal.returns-clause-giving_up
returns-clause-giving_up c = λ d over q h hs k e. (all_lawful d over h hs (GiveUp q) k e).0
