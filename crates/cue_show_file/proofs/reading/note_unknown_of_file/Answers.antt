use Rattle.std.proofs.Common.{map}
use Rattle.cue_show_file.specs.Reading.{is_clean}
use Rattle.cue_show_file.proofs.ReadingLemmas.{all-known}
use Rattle.cue_show_file.proofs.reading.note_unknown_of_file.Goals as goal

pub returns : goal.returns
returns c =
    all-known (map (λ k. k.now) c.args.known.now) c.args.table.now.entries c.loop-key.key-iterator
    (is_clean c.args.findings.now)
    (is_clean c.loop-key.findings) c.loop-key.invariant c.in-None.ensures.steps.0
