use Rattle.std.proofs.Common.{◌∙◌}
use Rattle.cue_load_words.proofs.CopyLemmas.{is_copy_text}
use Rattle.cue_load_words.proofs.copied.copy_of.Goals as goal

pub returns : goal.returns
returns c =
    is_copy_text c.args.stored.now c.args.port _ _ c.in_ok-file.ensures
    (c.in_ok-copy.ensures.items ∙ c.as_bytes.ensures.value ∙ c.in_ok-text.ensures)
