use Rattle.std.proofs.Common.{◌∙◌, ap}
use Rattle.std.specs.List.{list_all}
use Rattle.std.specs.Str.{chars}
use Rattle.std.proofs.lemmas.Str.{chars-nil}
use Rattle.cue_words.specs.Signs.{is_shown}
use Rattle.cue_findings.proofs.unread.safe.Goals as goal

pub returns-in-Err : goal.returns-in-Err
returns-in-Err c = ap (λ bs. list_all is_shown (chars bs)) c.new.ensures.bytes ∙ ap (λ cs. list_all is_shown cs) chars-nil
