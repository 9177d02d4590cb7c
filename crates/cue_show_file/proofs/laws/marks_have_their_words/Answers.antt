use Rattle.cue_show_file.proofs.MarkLemmas.{marks-have_their_words}
use Rattle.cue_show_file.proofs.laws.marks_have_their_words.Goals as goal

pub returns : goal.returns
returns c = marks-have_their_words
