use Rattle.std.proofs.Common.{arith, rules}
use Rattle.cue_script.proofs.ScriptLemmas.{read_known}
use Rattle.cue_script.proofs.entry.read_at_most.Goals as goal

pub returns-else-len-limit-clause-read : goal.returns-else-len-limit-clause-read
returns-else-len-limit-clause-read g c = read_known (g.R.Read.remaining c.args.reader.now) c.args.limit _ (search rules)
    (omega (arith, c.read_to_end.new.bytes.ok.0))
