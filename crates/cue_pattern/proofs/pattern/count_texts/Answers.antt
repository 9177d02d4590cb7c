use Rattle.std.proofs.Common.{◌+◌, sym, ap, ◌∙◌}
use Rattle.cue_pattern.proofs.PartsLemmas.{length-cut}
use Rattle.cue_pattern.proofs.pattern.count_texts.Goals as goal

pub returns : goal.returns
returns c = ap (λ n. n + 1) c.count_slashes.ensures.count ∙ sym (length-cut 47 c.args.rest.now)
