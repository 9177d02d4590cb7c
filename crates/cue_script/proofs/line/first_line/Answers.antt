use Rattle.cue_script.proofs.ScriptLineLemmas.{lines-found, lines-whole}
use Rattle.cue_script.proofs.line.first_line.Goals as goal

pub returns-in-Some-clause-line : goal.returns-in-Some-clause-line
returns-in-Some-clause-line c = lines-found c.args.text.now c.in-Some.line.now c.in-Some.rest.now c.in-Some.ensures.cut

pub returns-in-None-clause-line : goal.returns-in-None-clause-line
returns-in-None-clause-line c = lines-whole c.args.text.now c.in-None.ensures.cut c.requires
