use Rattle.std.proofs.Common.{◌≡◌, ◌∙◌, ◌++◌, ap, string_bytes}
use Rattle.cue_kept.proofs.KeptLemmas.{alarms-are-read-back}
use Rattle.cue_kept.specs.Alarms.{alarms_of}
use Rattle.cue_kept.specs.Reading.{read}
use Rattle.cue_kept.specs.Text.{write}
use Rattle.cue_kept.proofs.writing.write.Goals as goal

pub returns-clause-reads_back : goal.returns-clause-reads_back
returns-clause-reads_back c fits =
    let written : string_bytes c.put_alarms.new.out ≡ write (alarms_of c.args.kept.now) =
    c.in_ok-put_alarms.ensures ∙ ap (λ x. x ++ write (alarms_of c.args.kept.now)) c.new-out.ensures.bytes in
    ap read written ∙ alarms-are-read-back (alarms_of c.args.kept.now) fits
