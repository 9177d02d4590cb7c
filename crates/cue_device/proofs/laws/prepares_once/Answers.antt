use Rattle.cue_device.specs.declared.words.Order.TheVariants.{Prepare}
use Rattle.cue_device.proofs.HistoryLemmas.{all_lawful}
use Rattle.cue_device.proofs.laws.prepares_once.Goals as goal

pub returns : goal.returns
returns c = λ d over q h hs k e. (all_lawful d over h hs (Prepare q) k e).0
