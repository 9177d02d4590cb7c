use Rattle.cue_rehearsal_machine.proofs.LawLemmas.{keeps-the-table}
use Rattle.cue_rehearsal_machine.proofs.laws.keeps_the_table.Goals as goal

pub returns : goal.returns
returns c = keeps-the-table
