use Rattle.std.proofs.Common.{rules}
use Rattle.cue_load_words.proofs.copies.kept_name.Goals as goal

pub returns-then-number-eq1 : goal.returns-then-number-eq1
returns-then-number-eq1 c = rw (c.if-number-eq1.true) (search rules)
