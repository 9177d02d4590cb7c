use Rattle.cue_log.proofs.ClosedLemmas.{sync_leaves, length_leaves, read_leaves}
use Rattle.cue_log.proofs.area.is_absent.Goals as goal

pub returns-clause-any_moment : goal.returns-clause-any_moment
returns-clause-any_moment g c = λ honest.
    let held = g.D.Disk.held in
    let honest1 = c.sync.ensures.honest.1 honest in
    let honest2 = c.len.ensures.honest.1 honest1 in
    read_leaves g.D.Disk.moment held g.D.Disk.held_at c.args.disk.now c.sync.new.self
    (g.met.D.Disk.held_now c.args.disk.now honest) (c.sync.ensures.crash honest) (c.sync.ensures.time honest)
    c.len.new.self (c.len.ensures.same honest1) (c.len.ensures.time honest1) c.read_at.new.self
    (c.read_at.ensures.same honest2) (c.read_at.ensures.time honest2)

pub returns-in_err-read_at-clause-any_moment : goal.returns-in_err-read_at-clause-any_moment
returns-in_err-read_at-clause-any_moment g c = λ honest.
    let held = g.D.Disk.held in
    let honest1 = c.sync.ensures.honest.1 honest in
    let honest2 = c.len.ensures.honest.1 honest1 in
    read_leaves g.D.Disk.moment held g.D.Disk.held_at c.args.disk.now c.sync.new.self
    (g.met.D.Disk.held_now c.args.disk.now honest) (c.sync.ensures.crash honest) (c.sync.ensures.time honest)
    c.len.new.self (c.len.ensures.same honest1) (c.len.ensures.time honest1) c.read_at.new.self
    (c.read_at.ensures.same honest2) (c.read_at.ensures.time honest2)

pub returns-in_err-len-clause-any_moment : goal.returns-in_err-len-clause-any_moment
returns-in_err-len-clause-any_moment g c = λ honest.
    let held = g.D.Disk.held in
    let honest1 = c.sync.ensures.honest.1 honest in
    length_leaves g.D.Disk.moment held g.D.Disk.held_at c.args.disk.now c.sync.new.self
    (g.met.D.Disk.held_now c.args.disk.now honest) (c.sync.ensures.crash honest) (c.sync.ensures.time honest)
    c.len.new.self (c.len.ensures.same honest1) (c.len.ensures.time honest1)

pub returns-in_err-sync-clause-any_moment : goal.returns-in_err-sync-clause-any_moment
returns-in_err-sync-clause-any_moment g c = λ honest.
    sync_leaves g.D.Disk.moment g.D.Disk.held g.D.Disk.held_at c.args.disk.now c.sync.new.self
    (g.met.D.Disk.held_now c.args.disk.now honest) (c.sync.ensures.crash honest) (c.sync.ensures.time honest)

pub returns-then-branch-lt2-clause-any_moment : goal.returns-then-branch-lt2-clause-any_moment
returns-then-branch-lt2-clause-any_moment g c = λ honest.
    let held = g.D.Disk.held in
    let honest1 = c.sync.ensures.honest.1 honest in
    length_leaves g.D.Disk.moment held g.D.Disk.held_at c.args.disk.now c.sync.new.self
    (g.met.D.Disk.held_now c.args.disk.now honest) (c.sync.ensures.crash honest) (c.sync.ensures.time honest)
    c.len.new.self (c.len.ensures.same honest1) (c.len.ensures.time honest1)
