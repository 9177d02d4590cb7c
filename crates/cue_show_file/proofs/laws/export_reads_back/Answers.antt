use Rattle.std.proofs.Common.{◌∙◌}
use Rattle.cue_show_file.proofs.SaidLemmas.{reads-clean, reads-same}
use Rattle.cue_show_file.proofs.laws.export_reads_back.Goals as goal

pub returns-clause-clean : goal.returns-clause-clean
returns-clause-clean c =
    reads-clean c.args.show.now c.in_ok-file.file c.as_str.result.now c.place.ensures.rules c.in_ok-file.ensures
    (c.as_str.ensures.value ∙ c.in_ok-text.ensures) c.read.result c.read.ensures.whole

pub returns-clause-same : goal.returns-clause-same
returns-clause-same c =
    reads-same c.args.show.now c.in_ok-file.file c.as_str.result.now c.place.ensures.rules c.in_ok-file.ensures
    (c.as_str.ensures.value ∙ c.in_ok-text.ensures) c.read.result c.read.ensures.whole
