use Rattle.std.proofs.Common.{None}
use Rattle.cue_report.proofs.HeardLemmas.{says_line, says_then}
use Rattle.cue_report.proofs.evening.Evening.take_line.Goals as goal

pub returns : goal.returns
returns c =
    says_then c.args.at c.args.line.now _ _ _
    (says_line c.args.at c.asker_of-by.result c.answer_in.result None c.args.line.now _ _ c.in_ok-take.ensures)
    c.in_ok-follow.ensures
