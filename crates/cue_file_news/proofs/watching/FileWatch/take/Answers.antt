use Rattle.cue_file_news.proofs.TakeLemmas.{after_reading}
use Rattle.cue_file_news.proofs.watching.FileWatch.take.Goals as goal

pub returns-clause-keeps : goal.returns-clause-keeps
returns-clause-keeps c =
    after_reading c.args.self.now c.args.reading c.in_ok-became.became c.keep.new.self c.in_ok-became.ensures
    c.keep.ensures
