use Rattle.cue_midi.proofs.LawLemmas.{struck-is_heard}
use Rattle.cue_midi.proofs.laws.struck_is_heard.Goals as goal

pub returns : goal.returns
returns c = struck-is_heard
