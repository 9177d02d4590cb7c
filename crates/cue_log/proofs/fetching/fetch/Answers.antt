use Rattle.std.proofs.Common.{◌≡◌, min, ◌∙◌, ap, sym, subst, arith, List, ℕ, length, take, get_or}
use Rattle.std.specs.Prelude.{IfOk}
use Rattle.cue_disk.specs.Disk.{Contents}
use Rattle.cue_log.specs.declared.area.TheConstants.{MAX_AREA}
use Rattle.cue_log.proofs.ClosedLemmas.{first_read, sync_leaves, length_leaves, read_leaves}
use Rattle.cue_log.proofs.FetchedLemmas.{synced_reads, front_after}
use Rattle.cue_log.proofs.fetching.fetch.Goals as goal

pub returns-clause-any_moment : goal.returns-clause-any_moment
returns-clause-any_moment g c = λ honest.
    let honest1 = c.sync.ensures.honest.1 honest in
    let honest2 = c.len.ensures.honest.1 honest1 in
    let honest3 = c.read_at.ensures.honest.1 honest2 in
    synced_reads g.D.Disk.moment g.D.Disk.held g.D.Disk.held_at c.args.disk.now c.sync.new.self c.len.new.self
    c.read_at.new.self c.read_text.new.disk
    (g.met.D.Disk.held_now c.args.disk.now honest) (c.sync.ensures.crash honest) (c.sync.ensures.time honest)
    (c.len.ensures.same honest1) (c.len.ensures.time honest1) (c.read_at.ensures.same honest2)
    (c.read_at.ensures.time honest2) (c.read_text.ensures.reads honest3)

pub returns-clause-front : goal.returns-clause-front
returns-clause-front g c = λ honest.
    let held = g.D.Disk.held in
    let honest1 = c.sync.ensures.honest.1 honest in
    let honest2 = c.len.ensures.honest.1 honest1 in
    let honest3 = c.read_at.ensures.honest.1 honest2 in
    let bytes_of : Contents → List ℕ = λ h. h.bytes in
    let same2 : (held c.len.new.self).bytes ≡ (held c.args.disk.now).bytes = ap bytes_of (c.len.ensures.same honest1)
    ∙ c.sync.ensures.bytes honest in
    let same3 : (held c.read_at.new.self).bytes ≡ (held c.args.disk.now).bytes =
    ap bytes_of (c.read_at.ensures.same honest2) ∙ same2 in
    let long : c.in_ok-len.len ≡ length (held c.args.disk.now).bytes = c.in_ok-len.ensures.len honest1
    ∙ ap length (c.sync.ensures.bytes honest) in
    let gate : get_or c.read_at.new.buf 0 0 ≡ get_or (held c.args.disk.now).bytes 0 0 =
    first_read (held c.len.new.self).bytes c.read_at.new.buf (c.in_ok-read_at.ensures.read honest2)
    ∙ ap (λ (l : List ℕ). get_or l 0 0) same2 in
    front_after (λ text. text.items) c.read_text.result (held c.args.disk.now).bytes c.min.result
    (c.min.ensures ∙ ap (λ (n : ℕ). min n MAX_AREA) long) (omega (arith, long, c.if-len-lt2.false)) (sym gate
    ∙ c.if-gate-ne-OPEN.false)
    (subst (λ (bytes : List ℕ). IfOk c.read_text.result (λ text. text.items ≡ take (length text.items) bytes)) same3
    (c.read_text.ensures.text honest3)) c.read_text.ensures.enough

pub returns-in_err-sync-clause-any_moment : goal.returns-in_err-sync-clause-any_moment
returns-in_err-sync-clause-any_moment g c = λ honest.
    sync_leaves g.D.Disk.moment g.D.Disk.held g.D.Disk.held_at c.args.disk.now c.sync.new.self
    (g.met.D.Disk.held_now c.args.disk.now honest) (c.sync.ensures.crash honest) (c.sync.ensures.time honest)

pub returns-in_err-len-clause-any_moment : goal.returns-in_err-len-clause-any_moment
returns-in_err-len-clause-any_moment g c = λ honest.
    let honest1 = c.sync.ensures.honest.1 honest in
    length_leaves g.D.Disk.moment g.D.Disk.held g.D.Disk.held_at c.args.disk.now c.sync.new.self
    (g.met.D.Disk.held_now c.args.disk.now honest) (c.sync.ensures.crash honest) (c.sync.ensures.time honest)
    c.len.new.self (c.len.ensures.same honest1) (c.len.ensures.time honest1)

pub returns-then-len-lt2-clause-any_moment : goal.returns-then-len-lt2-clause-any_moment
returns-then-len-lt2-clause-any_moment g c = λ honest.
    let honest1 = c.sync.ensures.honest.1 honest in
    length_leaves g.D.Disk.moment g.D.Disk.held g.D.Disk.held_at c.args.disk.now c.sync.new.self
    (g.met.D.Disk.held_now c.args.disk.now honest) (c.sync.ensures.crash honest) (c.sync.ensures.time honest)
    c.len.new.self (c.len.ensures.same honest1) (c.len.ensures.time honest1)

pub returns-in_err-read_at-clause-any_moment : goal.returns-in_err-read_at-clause-any_moment
returns-in_err-read_at-clause-any_moment g c = λ honest.
    let honest1 = c.sync.ensures.honest.1 honest in
    let honest2 = c.len.ensures.honest.1 honest1 in
    read_leaves g.D.Disk.moment g.D.Disk.held g.D.Disk.held_at c.args.disk.now c.sync.new.self
    (g.met.D.Disk.held_now c.args.disk.now honest) (c.sync.ensures.crash honest) (c.sync.ensures.time honest)
    c.len.new.self (c.len.ensures.same honest1) (c.len.ensures.time honest1) c.read_at.new.self
    (c.read_at.ensures.same honest2) (c.read_at.ensures.time honest2)

pub returns-then-gate-ne-OPEN-clause-any_moment : goal.returns-then-gate-ne-OPEN-clause-any_moment
returns-then-gate-ne-OPEN-clause-any_moment g c = λ honest.
    let honest1 = c.sync.ensures.honest.1 honest in
    let honest2 = c.len.ensures.honest.1 honest1 in
    read_leaves g.D.Disk.moment g.D.Disk.held g.D.Disk.held_at c.args.disk.now c.sync.new.self
    (g.met.D.Disk.held_now c.args.disk.now honest) (c.sync.ensures.crash honest) (c.sync.ensures.time honest)
    c.len.new.self (c.len.ensures.same honest1) (c.len.ensures.time honest1) c.read_at.new.self
    (c.read_at.ensures.same honest2) (c.read_at.ensures.time honest2)
