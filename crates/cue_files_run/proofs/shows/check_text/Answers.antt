use Rattle.std.proofs.Common.{◌∙◌}
use Rattle.cue_files_run.proofs.ReadingLemmas.{ends_as, prints_sound}
use Rattle.cue_files_run.proofs.shows.check_text.Goals as goal

pub returns-in-Some-clause-ends : goal.returns-in-Some-clause-ends
returns-in-Some-clause-ends g c =
    ends_as c.args.text.now c.in_ok-found.found c.in-Some.ending c.in_ok-found.ensures c.in-Some.ensures

pub returns-clause-sound : goal.returns-clause-sound
returns-clause-sound g c =
    prints_sound c.args.text.now c.in_ok-found.found _ _ _ c.print.result c.in_ok-found.ensures c.in-None.ensures
    (c.as_str.ensures.value ∙ c.in_ok-line-in-None.ensures) c.print.ensures.printed
