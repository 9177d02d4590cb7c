use Rattle.cue_device.proofs.CommandLemmas.{says_standby, says_go, says_cancel, says_nothing, same_behind}
use Rattle.cue_device.proofs.CommandLemmas.{found_standby, found_go, found_cancel}
use Rattle.cue_device.proofs.ReadingLemmas.{task_text}
use Rattle.cue_device.proofs.reading.command.Goals as goal

pub returns-in_err-seq-clause-none : goal.returns-in_err-seq-clause-none
returns-in_err-seq-clause-none c = rw c.from_residual.ensures (λ x f.
    let s = says_standby c.args.number c.args.datagram.now c.in-Some.rest.now x c.in-Some.ensures f in
    c.in_err-seq.ensures.none s.seq (task_text s.task) s.number s.text)

pub returns-in_err-task-clause-none : goal.returns-in_err-task-clause-none
returns-in_err-task-clause-none c = rw c.from_residual-in_err-task.ensures (λ x f.
    let s = says_standby c.args.number c.args.datagram.now c.in-Some.rest.now x c.in-Some.ensures f in
    let behind = same_behind c.in-Some.rest.now c.in_ok-seq.rest.now (task_text s.task) c.in_ok-seq.seq s.seq
    c.args.number c.in_ok-seq.ensures.found.0 s.text in
    c.in_err-task.ensures.none s.task s.is_task behind)

pub returns-in-Some-clause-found : goal.returns-in-Some-clause-found
returns-in-Some-clause-found c =
    let s = c.in_ok-seq.ensures.found in
    let t = c.in_ok-task.ensures.found in
    found_standby c.args.number c.in_ok-seq.seq c.in_ok-task.task c.args.datagram.now c.in-Some.rest.now
    c.in_ok-seq.rest.now c.in-Some.ensures s.0 t.0 s.1 t.1

pub returns-in_err-seq-2-clause-none : goal.returns-in_err-seq-2-clause-none
returns-in_err-seq-2-clause-none c = rw c.from_residual-in_err-seq-2.ensures (λ x f.
    let s = says_go c.args.number c.args.datagram.now c.in-Some-after.rest.now x c.in-Some-after.ensures f in
    c.in_err-seq-2.ensures.none s.seq s.number s.text)

pub returns-in-Some-after-clause-found : goal.returns-in-Some-after-clause-found
returns-in-Some-after-clause-found c =
    let s = c.in_ok-seq-2.ensures.found in
    found_go c.args.number c.in_ok-seq-2.seq c.args.datagram.now c.in-Some-after.rest.now c.in-Some-after.ensures s.0
    s.1

pub returns-in_err-rest-clause-none : goal.returns-in_err-rest-clause-none
returns-in_err-rest-clause-none c = rw c.from_residual-in_err-rest.ensures (λ x f.
    says_nothing c.args.number c.args.datagram.now x c.in_default.ensures c.in_default-after.ensures
    c.in_err-rest.ensures f)

pub returns-in_err-seq-3-clause-none : goal.returns-in_err-seq-3-clause-none
returns-in_err-seq-3-clause-none c = rw c.from_residual-in_err-seq-3.ensures (λ x f.
    let s = says_cancel c.args.number c.args.datagram.now c.in_ok-rest.rest.now x c.in_ok-rest.ensures f in
    c.in_err-seq-3.ensures.none s.seq s.number s.text)

pub returns-clause-found : goal.returns-clause-found
returns-clause-found c =
    let s = c.in_ok-seq-3.ensures.found in
    found_cancel c.args.number c.in_ok-seq-3.seq c.args.datagram.now c.in_ok-rest.rest.now c.in_ok-rest.ensures s.0 s.1
