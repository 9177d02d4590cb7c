use Rattle.std.proofs.Common.{arith, ap, ◌∙◌, length, ◌≡◌}
use Rattle.cue_osc.specs.Reading.{blob_at}
use Rattle.cue_device.proofs.ReadingLemmas.{cue_read, cue_is, bytes_read, task_is, task_takes, nothing_left, no_cue}
use Rattle.cue_device.proofs.ReadingLemmas.{empty_is, found_task}
use Rattle.cue_device.proofs.reading.task.Goals as goal

pub returns-in_err-cue-clause-none : goal.returns-in_err-cue-clause-none
returns-in_err-cue-clause-none c =
    rw c.from_residual.ensures (λ t h e. c.in_err-cue.ensures _ (cue_read c.args.bytes.now t h e))

pub returns-in_err-kept-clause-none : goal.returns-in_err-kept-clause-none
returns-in_err-kept-clause-none c = rw c.from_residual-in_err-kept.ensures (λ t h e.
    let rest = (cue_is c.args.bytes.now c.in_ok-cue.cue.now c.in_ok-cue.rest.now t h e c.in_ok-cue.ensures).1 in
    c.in_err-kept.ensures _ (ap blob_at rest ∙ bytes_read t h))

pub returns-then-not-is_empty-clause-none : goal.returns-then-not-is_empty-clause-none
returns-then-not-is_empty-clause-none c = λ t h e.
    let is = task_is c.args.bytes.now c.in_ok-cue.cue.now c.in_ok-cue.rest.now c.in_ok-kept.kept.now
    c.in_ok-kept.rest.now t h e c.in_ok-cue.ensures c.in_ok-kept.ensures in
    nothing_left c.in_ok-kept.rest.now c.if-not-is_empty.ensures is.2

pub returns-in_err-cue-2-clause-none : goal.returns-in_err-cue-2-clause-none
returns-in_err-cue-2-clause-none c = rw c.from_residual-in_err-cue-2.ensures (λ t h e.
    let is = task_is c.args.bytes.now c.in_ok-cue.cue.now c.in_ok-cue.rest.now c.in_ok-kept.kept.now
    c.in_ok-kept.rest.now t h e c.in_ok-cue.ensures c.in_ok-kept.ensures in
    no_cue c.in_ok-cue.cue.now t.cue c.in_err-cue-2.ensures.none is.0 h.cue)

pub returns-in_err-bytes-clause-none : goal.returns-in_err-bytes-clause-none
returns-in_err-bytes-clause-none c = rw c.from_residual-in_err-bytes.ensures (λ t h e.
    let is = task_is c.args.bytes.now c.in_ok-cue.cue.now c.in_ok-cue.rest.now c.in_ok-kept.kept.now
    c.in_ok-kept.rest.now t h e c.in_ok-cue.ensures c.in_ok-kept.ensures in
    let same : length c.in_ok-kept.kept.now ≡ length t.bytes = ap length is.1 in
    omega (arith, h.short, c.in_err-bytes.ensures.none, same))

pub returns-clause-found : goal.returns-clause-found
returns-clause-found c =
    let none = empty_is c.in_ok-kept.rest.now c.if-not-is_empty.ensures in
    let text = task_takes c.args.bytes.now c.in_ok-cue.cue.now c.in_ok-cue.rest.now c.in_ok-kept.kept.now
    c.in_ok-kept.rest.now (λ i. omega (arith, c.type_inv.bytes i)) c.in_ok-cue.ensures c.in_ok-kept.ensures none in
    found_task c.args.bytes.now c.in_ok-cue.cue.now c.in_ok-kept.kept.now c.in_ok-cue-2.cue c.in_ok-bytes.bytes text
    c.in_ok-cue-2.ensures.found c.in_ok-bytes.ensures.found
