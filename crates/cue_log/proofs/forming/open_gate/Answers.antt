use Rattle.std.proofs.Common.{◌∙◌}
use Rattle.cue_log.specs.Area.{fresh}
use Rattle.cue_log.proofs.SettledLemmas.{at_ok, if_ok}
use Rattle.cue_log.proofs.FilledLemmas.{gate_written, settled_area, gate_leaves, last_leaves}
use Rattle.cue_log.proofs.CompleteLemmas.{area_in_is}
use Rattle.cue_log.proofs.forming.open_gate.Goals as goal

pub returns-in_err-write_at-clause-any_moment : goal.returns-in_err-write_at-clause-any_moment
returns-in_err-write_at-clause-any_moment g c = λ honest.
    let r = c.requires in
    gate_leaves (g.D.Disk.held c.args.disk.now) c.args.generation c.args.snapshot.now (r.filled honest)
    c.ranges.generation.fits r.room
    g.D.Disk.moment g.D.Disk.held g.D.Disk.held_at c.args.disk.now (g.met.D.Disk.held_now c.args.disk.now honest)
    c.write_at.new.self (c.write_at.ensures.crash honest) (c.write_at.ensures.time honest)

pub returns-clause-any_moment : goal.returns-clause-any_moment
returns-clause-any_moment g c = λ honest.
    let r = c.requires in
    let honest1 = c.write_at.ensures.honest.1 honest in
    last_leaves (g.D.Disk.held c.args.disk.now) c.args.generation c.args.snapshot.now (r.filled honest)
    c.ranges.generation.fits r.room
    g.D.Disk.moment g.D.Disk.held g.D.Disk.held_at c.args.disk.now (g.met.D.Disk.held_now c.args.disk.now honest)
    c.write_at.new.self (c.write_at.ensures.crash honest) (c.write_at.ensures.time honest)
    c.sync.new.self (c.sync.ensures.crash honest1) (c.sync.ensures.time honest1)

pub returns-clause-settled : goal.returns-clause-settled
returns-clause-settled g c = λ honest.
    let r = c.requires in
    let honest1 = c.write_at.ensures.honest.1 honest in
    let filled = r.filled honest in
    if_ok c.sync.result
    (settled_area (g.D.Disk.held c.args.disk.now) c.args.generation c.args.snapshot.now filled c.ranges.generation.fits
    r.room (g.D.Disk.held c.sync.new.self)
    (gate_written (g.D.Disk.held c.args.disk.now) c.args.generation c.args.snapshot.now filled c.ranges.generation.fits
    r.room (g.D.Disk.held c.sync.new.self).bytes (c.sync.ensures.bytes honest1
    ∙ c.in_ok-write_at.ensures.written honest)))
    (c.sync.ensures.stable honest1)

pub returns-clause-area : goal.returns-clause-area
returns-clause-area g c = λ honest.
    let r = c.requires in
    let honest1 = c.write_at.ensures.honest.1 honest in
    let filled = r.filled honest in
    at_ok c.sync.result
    (area_in_is (fresh c.args.generation c.args.snapshot.now) (g.D.Disk.held c.sync.new.self).bytes
    (gate_written (g.D.Disk.held c.args.disk.now) c.args.generation c.args.snapshot.now filled c.ranges.generation.fits
    r.room (g.D.Disk.held c.sync.new.self).bytes (c.sync.ensures.bytes honest1
    ∙ c.in_ok-write_at.ensures.written honest)))
