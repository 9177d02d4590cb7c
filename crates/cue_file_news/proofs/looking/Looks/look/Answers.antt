use Rattle.cue_file_news.proofs.LookLemmas.{asked_idle}
use Rattle.cue_file_news.proofs.looking.Looks.look.Goals as goal

pub returns-else-is_live-clause-asked : goal.returns-else-is_live-clause-asked
returns-else-is_live-clause-asked c =
    asked_idle c.args.self.now.last c.args.self.now.read c.args.found c.args.is_live c.to_read.result c.if-is_live.false
    c.to_read.ensures.there c.to_read.ensures.same
