use Rattle.std.proofs.Common.{◌==◌, ◌&&◌, length}
use Rattle.cue_file_news.specs.Judging.{is_shown}
use Rattle.cue_file_news.proofs.JudgeLemmas.{has_mistake, refused}
use Rattle.cue_file_news.proofs.judging.judge.Goals as goal

pub returns-in-Ok-Err-clause-wrong : goal.returns-in-Ok-Err-clause-wrong
returns-in-Ok-Err-clause-wrong c =
    has_mistake c.args.text.now c.in_ok-file.field-0.file c.in_ok-file.field-0.findings.items c.in_ok-file.ensures.whole
    (refused c.in-Ok-Err.field-0 c.in-Ok-Err.line
    ((length c.in_ok-file.field-0.findings.items == 0) && is_shown c.in_ok-file.field-0.file) c.in-Ok-Err.field-0-is
    c.in-Ok-Err.ensures)
