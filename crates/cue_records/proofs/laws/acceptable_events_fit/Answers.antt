use Rattle.cue_records.proofs.FittingLemmas.{events_fit}
use Rattle.cue_records.proofs.laws.acceptable_events_fit.Goals as goal

pub returns : goal.returns
returns c = events_fit
