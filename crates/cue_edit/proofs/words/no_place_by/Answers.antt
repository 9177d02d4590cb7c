use Rattle.cue_edit.proofs.words.no_place_by.Goals as goal

pub returns-in-Some : goal.returns-in-Some
returns-in-Some c = rw (c.in-Some.is, ← c.cue_text-cue.ensures, ← c.cue_text-before.ensures) c.format.ensures.ok
