use Rattle.cue_log.proofs.CompleteLemmas.{complete}
use Rattle.cue_log.proofs.laws.reader_finds_each.Goals as goal

pub returns : goal.returns
returns c = complete
