use Rattle.std.proofs.Common.{sym, ◌∙◌, ap}
use Rattle.std.specs.Option.{option_copied}
use Rattle.cue_engine.proofs.GroupLemmas.{last_kept}
use Rattle.cue_engine.proofs.drafts.last_batch.Goals as goal

pub returns-in-Some : goal.returns-in-Some
returns-in-Some c = c.as_slice.ensures.value
    ∙ sym (last_kept c.args.batches.now c.in-Some.batch.now (sym c.last.ensures.value ∙ ap option_copied c.in-Some.is))
