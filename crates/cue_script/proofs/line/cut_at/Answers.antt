use Rattle.std.specs.Prelude.{◌+◌}
use Rattle.std.proofs.Common.{sym, arith}
use Rattle.std.proofs.lemmas.List.{take_rest}
use Rattle.cue_script.proofs.ScriptLineLemmas.{cut_found, cut_nowhere}
use Rattle.cue_script.proofs.line.cut_at.Goals as goal

pub returns-in-Some-clause-cut : goal.returns-in-Some-clause-cut
returns-in-Some-clause-cut c =
    let first = c.in-Some.ensures in
    rw (take_rest c.args.text.now (c.in-Some.place + 1))
    (sym (cut_found c.args.mark c.args.text.now c.in-Some.place first.0.high
    (λ k below. first.0.before k (omega arith) below) first.1))

pub returns-in-None-clause-cut : goal.returns-in-None-clause-cut
returns-in-None-clause-cut c =
    sym (cut_nowhere c.args.mark c.args.text.now (λ k below. c.in-None.ensures k (omega arith) below))
