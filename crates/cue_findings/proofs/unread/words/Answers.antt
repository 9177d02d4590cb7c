use Rattle.std.proofs.Common.{◌∙◌, ap}
use Rattle.std.specs.List.{list_all}
use Rattle.std.specs.Str.{chars}
use Rattle.std.proofs.lemmas.Str.{chars-nil}
use Rattle.cue_words.specs.Signs.{is_shown}
use Rattle.cue_findings.proofs.unread.words.Goals as goal

pub returns : goal.returns
returns g c = ap (λ bs. list_all is_shown (chars bs)) c.new.ensures.bytes ∙ ap (λ cs. list_all is_shown cs) chars-nil
