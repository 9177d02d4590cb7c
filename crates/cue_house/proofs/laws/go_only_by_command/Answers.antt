use Rattle.cue_house.proofs.AskedLemmas.{go_only_by_command}
use Rattle.cue_house.proofs.laws.go_only_by_command.Goals as goal

pub returns : goal.returns
returns c = go_only_by_command
