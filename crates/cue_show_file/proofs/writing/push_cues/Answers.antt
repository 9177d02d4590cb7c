use Rattle.std.proofs.Common.{◌++◌, string_bytes}
use Rattle.std.specs.List.{flat_map}
use Rattle.cue_show_file.specs.Written.{cue_text}
use Rattle.cue_show_file.proofs.StepLemmas.{one-more}
use Rattle.cue_show_file.proofs.writing.push_cues.Goals as goal

pub loop-entry-preserved : goal.loop-entry-preserved
loop-entry-preserved c =
    one-more cue_text c.args.entries.now c.loop-entry.entry-index c.entry-item.result (string_bytes c.loop-entry.text)
    (string_bytes c.push_cue.new.text)
    (string_bytes c.args.text.now ++ flat_map cue_text c.args.entries.now) c.loop-entry-test.true c.entry-item.is
    c.in_ok-push_cue.ensures c.loop-entry.invariant
