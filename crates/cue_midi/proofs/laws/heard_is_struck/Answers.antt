use Rattle.cue_midi.proofs.LawLemmas.{heard-is_struck}
use Rattle.cue_midi.proofs.laws.heard_is_struck.Goals as goal

pub returns : goal.returns
returns c = heard-is_struck
