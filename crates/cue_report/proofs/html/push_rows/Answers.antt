use Rattle.std.proofs.Common.{arith, append-nil, refl, string_bytes, sym, []}
use Rattle.cue_report.proofs.DrawingLemmas.{drawn-all, drawn-more}
use Rattle.cue_report.specs.Drawing.{IsDrawn}
use Rattle.cue_report.proofs.html.push_rows.Goals as goal

pub loop-attempt-init : goal.loop-attempt-init
loop-attempt-init c = ([], sym (append-nil (string_bytes c.args.page.now)), refl)

pub loop-attempt-preserved : goal.loop-attempt-preserved
loop-attempt-preserved c =
    drawn-more IsDrawn c.args.attempts.now c.loop-attempt.attempt-index c.attempt-item.result (string_bytes c.args.page.now)
    (string_bytes c.loop-attempt.page) (string_bytes c.push_attempt.new.page) (omega arith) c.attempt-item.is
    c.loop-attempt.invariant c.in_ok-push_attempt.ensures

pub returns : goal.returns
returns c =
    drawn-all IsDrawn c.args.attempts.now c.loop-attempt.attempt-index (string_bytes c.args.page.now)
    (string_bytes c.loop-attempt.page) (omega arith) c.loop-attempt.invariant
