use Rattle.std.proofs.Common.{subst}
use Rattle.cue_disk.specs.Disk.{Contents}
use Rattle.cue_copies.specs.Telling.{StandsAsFound}
use Rattle.cue_copies.proofs.reading.read_again.Goals as goal

pub returns-in_default-2-clause-stood : goal.returns-in_default-2-clause-stood
returns-in_default-2-clause-stood g c = λ first second.
    let found = c.read.ensures.stood (c.loop.invariant.first_honest.1 first) (c.loop.invariant.second_honest.1 second) in
    subst (λ (x : Contents). StandsAsFound c.args.last.now x (g.D.Disk.held c.args.second.now) c.read.result)
    (c.loop.invariant.first first)
    (subst (λ (y : Contents). StandsAsFound c.args.last.now (g.D.Disk.held c.loop.first) y c.read.result)
    (c.loop.invariant.second second) found)

pub returns-clause-stood : goal.returns-clause-stood
returns-clause-stood g c = λ first second.
    let found = c.read-2.ensures.stood (c.loop.invariant.first_honest.1 first) (c.loop.invariant.second_honest.1 second) in
    subst (λ (x : Contents). StandsAsFound c.args.last.now x (g.D.Disk.held c.args.second.now) c.read-2.result)
    (c.loop.invariant.first first)
    (subst (λ (y : Contents). StandsAsFound c.args.last.now (g.D.Disk.held c.loop.first) y c.read-2.result)
    (c.loop.invariant.second second) found)
