use Rattle.cue_log.proofs.FetchedLemmas.{reads_none, reads_once}
use Rattle.cue_log.proofs.fetching.read_more.Goals as goal

pub returns-clause-reads : goal.returns-clause-reads
returns-clause-reads g c = λ honest.
    reads_once g.D.Disk.moment g.D.Disk.held g.D.Disk.held_at c.args.disk.now c.read_at.new.self
    (g.met.D.Disk.held_now c.args.disk.now honest) (c.read_at.ensures.same honest) (c.read_at.ensures.time honest)

pub returns-in_err-read_at-clause-reads : goal.returns-in_err-read_at-clause-reads
returns-in_err-read_at-clause-reads g c = λ honest.
    reads_once g.D.Disk.moment g.D.Disk.held g.D.Disk.held_at c.args.disk.now c.read_at.new.self
    (g.met.D.Disk.held_now c.args.disk.now honest) (c.read_at.ensures.same honest) (c.read_at.ensures.time honest)

pub returns-in_err-resize-clause-reads : goal.returns-in_err-resize-clause-reads
returns-in_err-resize-clause-reads g c = λ honest.
    reads_none g.D.Disk.moment g.D.Disk.held g.D.Disk.held_at c.args.disk.now
    (g.met.D.Disk.held_now c.args.disk.now honest)
