use Rattle.std.proofs.Common.{rules}
use Rattle.cue_loading.proofs.StackLemmas.{same_cues-longer}
use Rattle.cue_loading.proofs.entries.+same_cues.Goals as goal

pub returns-in-len1-up-empty : goal.returns-in-len1-up-empty
returns-in-len1-up-empty t c =
    same_cues-longer c.args.cues.now c.args.others.now (search rules) (search rules)
