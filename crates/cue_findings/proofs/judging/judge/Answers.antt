use Rattle.cue_findings.proofs.JudgingLemmas.{wrong_has}
use Rattle.cue_findings.proofs.judging.judge.Goals as goal

pub returns-clause-wrong : goal.returns-clause-wrong
returns-clause-wrong c =
    wrong_has c.args.text.now c.in_ok-looked.looked c.verdict_of.result c.in_ok-looked.ensures c.verdict_of.ensures
