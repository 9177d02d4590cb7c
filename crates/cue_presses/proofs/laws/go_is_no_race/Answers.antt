use Rattle.cue_presses.proofs.RaceLemmas.{go-is_no_race}
use Rattle.cue_presses.proofs.laws.go_is_no_race.Goals as goal

pub returns : goal.returns
returns c = go-is_no_race
