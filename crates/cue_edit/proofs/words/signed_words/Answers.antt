use Rattle.cue_edit.proofs.words.signed_words.Goals as goal

pub returns : goal.returns
returns c = rw (← c.cue_text-cue.ensures, ← c.sign_said-sign.ensures) c.format.ensures.ok
