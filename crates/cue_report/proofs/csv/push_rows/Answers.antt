use Rattle.std.proofs.Common.{arith, append-nil, length, refl, string_bytes, sym, []}
use Rattle.cue_report.proofs.DrawingLemmas.{drawn-all, drawn-more}
use Rattle.cue_report.specs.Writing.{IsWritten}
use Rattle.cue_report.proofs.csv.push_rows.Goals as goal

pub loop-attempt-init : goal.loop-attempt-init
loop-attempt-init c = ([], sym (append-nil (string_bytes c.args.table.now)), refl)

pub loop-attempt-preserved : goal.loop-attempt-preserved
loop-attempt-preserved c =
    drawn-more (IsWritten (length c.args.columns.now)) c.args.attempts.now c.loop-attempt.attempt-index c.attempt-item.result
    (string_bytes c.args.table.now) (string_bytes c.loop-attempt.table) (string_bytes c.push_attempt.new.table)
    (omega arith) c.attempt-item.is c.loop-attempt.invariant c.in_ok-push_attempt.ensures

pub returns : goal.returns
returns c =
    drawn-all (IsWritten (length c.args.columns.now)) c.args.attempts.now c.loop-attempt.attempt-index (string_bytes c.args.table.now)
    (string_bytes c.loop-attempt.table) (omega arith) c.loop-attempt.invariant
