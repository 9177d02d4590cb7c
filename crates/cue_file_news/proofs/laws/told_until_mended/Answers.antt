use Rattle.cue_file_news.proofs.ToldLemmas.{told-until-mended}
use Rattle.cue_file_news.proofs.laws.told_until_mended.Goals as goal

pub returns : goal.returns
returns c = told-until-mended
