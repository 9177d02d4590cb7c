use Rattle.cue_file_news.proofs.RestLemmas.{read-at-rest}
use Rattle.cue_file_news.proofs.laws.read_at_rest.Goals as goal

pub returns : goal.returns
returns c = read-at-rest
