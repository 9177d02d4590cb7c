use Rattle.cue_file_news.proofs.LookLemmas.{after_look, asked_live}
use Rattle.cue_file_news.proofs.watching.FileWatch.look.Goals as goal

pub returns-clause-keeps : goal.returns-clause-keeps
returns-clause-keeps c =
    after_look c.args.self.now c.args.found c.args.is_live c.look-self.new.self c.look-self.result c.last.result
    c.trouble_found-self.result c.last.ensures c.trouble_found-self.ensures c.look-self.ensures.next
    c.look-self.ensures.asked

pub returns-clause-idle : goal.returns-clause-idle
returns-clause-idle c =
    asked_live c.args.self.now.looks.last c.args.self.now.looks.read c.args.found c.args.is_live c.look-self.result
    c.look-self.ensures.asked
