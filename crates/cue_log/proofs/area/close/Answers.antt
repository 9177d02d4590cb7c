use Rattle.std.proofs.Common.{◌≡◌, ◌≢◌, ◌<◌, sym, ◌∙◌, ap, arith, length, get_or, ℕ, refl}
use Rattle.cue_disk.specs.Disk.{Contents}
use Rattle.cue_log.proofs.ClosedLemmas.{asked_leaves, seen_leaves, shut_leaves, gate_leaves, last_leaves, stable_absent}
use Rattle.cue_log.proofs.ClosedLemmas.{stable_closed, first_read}
use Rattle.cue_log.proofs.SettledLemmas.{if_ok}
use Rattle.cue_log.proofs.area.close.Goals as goal

pub returns-then-gate-ne-OPEN-clause-absent : goal.returns-then-gate-ne-OPEN-clause-absent
returns-then-gate-ne-OPEN-clause-absent g c = λ honest.
    let held = g.D.Disk.held in
    let honest1 = c.len.ensures.honest.1 honest in
    let honest2 = c.read_at.ensures.honest.1 honest1 in
    let gate = first_read (held c.len.new.self).bytes c.read_at.new.buf (c.in_ok-read_at.ensures.read honest1)
    ∙ ap (λ (h : Contents). get_or h.bytes 0 0) (c.len.ensures.same honest) in
    let same = c.sync.ensures.bytes honest2 ∙ ap (λ (h : Contents). h.bytes) (c.read_at.ensures.same honest1)
    ∙ ap (λ (h : Contents). h.bytes) (c.len.ensures.same honest) in
    if_ok c.sync.result
    (λ stable. stable_absent (held c.sync.new.self) stable
    (λ opened. c.if-gate-ne-OPEN.true (gate ∙ sym (ap (λ (l : _). get_or l 0 0) same) ∙ opened)))
    (c.sync.ensures.stable honest2)

pub returns-in_err-write_at-clause-any_moment : goal.returns-in_err-write_at-clause-any_moment
returns-in_err-write_at-clause-any_moment g c = λ honest.
    let held = g.D.Disk.held in
    let honest1 = c.len.ensures.honest.1 honest in
    let honest2 = c.read_at.ensures.honest.1 honest1 in
    let gate = first_read (held c.len.new.self).bytes c.read_at.new.buf (c.in_ok-read_at.ensures.read honest1)
    ∙ ap (λ (h : Contents). get_or h.bytes 0 0) (c.len.ensures.same honest) in
    let was_open : get_or (held c.args.disk.now).bytes 0 0 ≡ 1 = sym gate ∙ c.if-gate-ne-OPEN.false in
    let some : 0 < length (held c.args.disk.now).bytes =
    omega (arith, c.in_ok-len.ensures.len honest, c.if-branch-eq0.false) in
    gate_leaves g.D.Disk.moment held g.D.Disk.held_at c.args.disk.now c.len.new.self c.read_at.new.self
    c.write_at.new.self (g.met.D.Disk.held_now c.args.disk.now honest)
    (c.len.ensures.same honest) (c.len.ensures.time honest) (c.read_at.ensures.same honest1)
    (c.read_at.ensures.time honest1) was_open some (c.write_at.ensures.crash honest2)
    (c.write_at.ensures.time honest2)

pub returns-clause-any_moment : goal.returns-clause-any_moment
returns-clause-any_moment g c = λ honest.
    let held = g.D.Disk.held in
    let honest1 = c.len.ensures.honest.1 honest in
    let honest2 = c.read_at.ensures.honest.1 honest1 in
    let gate = first_read (held c.len.new.self).bytes c.read_at.new.buf (c.in_ok-read_at.ensures.read honest1)
    ∙ ap (λ (h : Contents). get_or h.bytes 0 0) (c.len.ensures.same honest) in
    let was_open : get_or (held c.args.disk.now).bytes 0 0 ≡ 1 = sym gate ∙ c.if-gate-ne-OPEN.false in
    let some : 0 < length (held c.args.disk.now).bytes =
    omega (arith, c.in_ok-len.ensures.len honest, c.if-branch-eq0.false) in
    let honest3 = c.write_at.ensures.honest.1 honest2 in
    last_leaves g.D.Disk.moment held g.D.Disk.held_at c.args.disk.now c.len.new.self c.read_at.new.self
    c.write_at.new.self (g.met.D.Disk.held_now c.args.disk.now honest)
    (c.len.ensures.same honest) (c.len.ensures.time honest) (c.read_at.ensures.same honest1)
    (c.read_at.ensures.time honest1) was_open some (c.write_at.ensures.crash honest2)
    (c.write_at.ensures.time honest2)
    c.sync-2.new.self (c.sync-2.ensures.crash honest3) (c.sync-2.ensures.time honest3)

zero_ne_one : (shut open_ : ℕ) → shut ≡ 0 → open_ ≡ 1 → shut ≢ open_
zero_ne_one shut open_ is_zero is_one equal = absurd (omega arith)

pub returns-clause-absent : goal.returns-clause-absent
returns-clause-absent g c = λ honest.
    let held = g.D.Disk.held in
    let honest1 = c.len.ensures.honest.1 honest in
    let honest2 = c.read_at.ensures.honest.1 honest1 in
    let honest3 = c.write_at.ensures.honest.1 honest2 in
    let same = c.sync-2.ensures.bytes honest3 ∙ c.in_ok-write_at.ensures.written honest2 in
    if_ok c.sync-2.result
    (λ stable. stable_absent (held c.sync-2.new.self) stable
    (λ opened. zero_ne_one 0 1 refl refl (sym (ap (λ (l : _). get_or l 0 0) same) ∙ opened)))
    (c.sync-2.ensures.stable honest3)

pub returns-in_err-len-clause-any_moment : goal.returns-in_err-len-clause-any_moment
returns-in_err-len-clause-any_moment g c = λ honest.
    asked_leaves g.D.Disk.moment g.D.Disk.held g.D.Disk.held_at c.args.disk.now c.len.new.self
    (g.met.D.Disk.held_now c.args.disk.now honest) (c.len.ensures.same honest) (c.len.ensures.time honest)

pub returns-then-branch-eq0-clause-any_moment : goal.returns-then-branch-eq0-clause-any_moment
returns-then-branch-eq0-clause-any_moment g c = λ honest.
    asked_leaves g.D.Disk.moment g.D.Disk.held g.D.Disk.held_at c.args.disk.now c.len.new.self
    (g.met.D.Disk.held_now c.args.disk.now honest) (c.len.ensures.same honest) (c.len.ensures.time honest)

pub returns-in_err-read_at-clause-any_moment : goal.returns-in_err-read_at-clause-any_moment
returns-in_err-read_at-clause-any_moment g c = λ honest.
    let honest1 = c.len.ensures.honest.1 honest in
    seen_leaves g.D.Disk.moment g.D.Disk.held g.D.Disk.held_at c.args.disk.now c.len.new.self
    (g.met.D.Disk.held_now c.args.disk.now honest) (c.len.ensures.same honest) (c.len.ensures.time honest)
    c.read_at.new.self (c.read_at.ensures.same honest1) (c.read_at.ensures.time honest1)

pub returns-then-gate-ne-OPEN-clause-any_moment : goal.returns-then-gate-ne-OPEN-clause-any_moment
returns-then-gate-ne-OPEN-clause-any_moment g c = λ honest.
    let honest1 = c.len.ensures.honest.1 honest in
    let honest2 = c.read_at.ensures.honest.1 honest1 in
    shut_leaves g.D.Disk.moment g.D.Disk.held g.D.Disk.held_at c.args.disk.now c.len.new.self
    (g.met.D.Disk.held_now c.args.disk.now honest) (c.len.ensures.same honest) (c.len.ensures.time honest)
    c.read_at.new.self (c.read_at.ensures.same honest1) (c.read_at.ensures.time honest1) c.sync.new.self
    (c.sync.ensures.crash honest2) (c.sync.ensures.time honest2)

pub returns-then-gate-ne-OPEN-clause-closed : goal.returns-then-gate-ne-OPEN-clause-closed
returns-then-gate-ne-OPEN-clause-closed g c = λ honest.
    let held = g.D.Disk.held in
    let honest1 = c.len.ensures.honest.1 honest in
    let honest2 = c.read_at.ensures.honest.1 honest1 in
    let gate = first_read (held c.len.new.self).bytes c.read_at.new.buf (c.in_ok-read_at.ensures.read honest1)
    ∙ ap (λ (h : Contents). get_or h.bytes 0 0) (c.len.ensures.same honest) in
    let same = c.sync.ensures.bytes honest2 ∙ ap (λ (h : Contents). h.bytes) (c.read_at.ensures.same honest1)
    ∙ ap (λ (h : Contents). h.bytes) (c.len.ensures.same honest) in
    let some : 0 < length (held c.sync.new.self).bytes =
    omega (arith, c.in_ok-len.ensures.len honest, c.if-branch-eq0.false, ap length same) in
    if_ok c.sync.result
    (λ stable. stable_closed (held c.sync.new.self) stable some
    (λ opened. c.if-gate-ne-OPEN.true (gate ∙ sym (ap (λ (l : _). get_or l 0 0) same) ∙ opened)))
    (c.sync.ensures.stable honest2)

pub returns-clause-closed : goal.returns-clause-closed
returns-clause-closed g c = λ honest.
    let held = g.D.Disk.held in
    let honest1 = c.len.ensures.honest.1 honest in
    let honest2 = c.read_at.ensures.honest.1 honest1 in
    let honest3 = c.write_at.ensures.honest.1 honest2 in
    let same = c.sync-2.ensures.bytes honest3 ∙ c.in_ok-write_at.ensures.written honest2 in
    let some : 0 < length (held c.sync-2.new.self).bytes = omega (arith, ap length same) in
    if_ok c.sync-2.result
    (λ stable. stable_closed (held c.sync-2.new.self) stable some
    (λ opened. zero_ne_one 0 1 refl refl (sym (ap (λ (l : _). get_or l 0 0) same) ∙ opened)))
    (c.sync-2.ensures.stable honest3)
