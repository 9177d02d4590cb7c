use Rattle.cue_desk_run.proofs.LawLemmas.{only_asks}
use Rattle.cue_desk_run.proofs.laws.rounds_only_ask.Goals as goal

-- src/laws.rt
pub returns : goal.returns
returns c = only_asks
