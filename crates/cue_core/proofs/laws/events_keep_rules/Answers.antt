use Rattle.cue_core.proofs.rules.BatchLemmas.{is_state-after_events}
use Rattle.cue_core.proofs.laws.events_keep_rules.Goals as goal

pub returns : goal.returns
returns c = is_state-after_events
