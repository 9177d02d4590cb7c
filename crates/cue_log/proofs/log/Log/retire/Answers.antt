use Rattle.cue_log.proofs.SettledLemmas.{settled_reads}
use Rattle.cue_log.proofs.log.Log.retire.Goals as goal

pub returns-clause-reads : goal.returns-clause-reads
returns-clause-reads g c = λ honest works. settled_reads _ _ (c.args.self.settled honest works)
