use Rattle.cue_ask_machine.proofs.LawLemmas.{only-its-reply-is-told}
use Rattle.cue_ask_machine.proofs.laws.only_its_reply_is_told.Goals as goal

pub returns : goal.returns
returns c = only-its-reply-is-told
