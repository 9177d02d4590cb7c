use Rattle.cue_log_lines.specs.declared.line.Line.TheVariants.{Recovered}
use Rattle.cue_report.proofs.HeardLemmas.{says_found, says_then}
use Rattle.cue_report.proofs.evening.Evening.take_found.Goals as goal

pub loop-said-preserved : goal.loop-said-preserved
loop-said-preserved c =
    says_then c.args.at (Recovered c.args.list.now) _ _ _ c.loop-said.invariant
    (says_found c.args.at c.found_in.result c.args.list.now _ _ c.in_ok-take_found.ensures)
