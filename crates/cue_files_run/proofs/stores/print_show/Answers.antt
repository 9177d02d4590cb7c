use Rattle.std.proofs.Common.{◌∙◌}
use Rattle.cue_files_run.proofs.ReadingLemmas.{prints_show}
use Rattle.cue_files_run.proofs.stores.print_show.Goals as goal

pub returns : goal.returns
returns g c =
    prints_show c.args.show.now c.in_ok-file.file _ _ _ c.print.result c.in_ok-file.ensures
    (c.as_str.ensures.value ∙ c.in_ok-text.ensures) c.print.ensures.printed
