use Rattle.cue_file_news.proofs.ToldLemmas.{told-ten-seconds}
use Rattle.cue_file_news.proofs.laws.told_for_ten_seconds.Goals as goal

pub returns : goal.returns
returns c = told-ten-seconds
