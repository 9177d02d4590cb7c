use Rattle.cue_snap.specs.Observed.{first_after, second_after}
use Rattle.cue_snap.proofs.RenewalLemmas.{at_made}
use Rattle.cue_engine.specs.Observed.{state_of, queue_of, first_of, second_of}
use Rattle.cue_engine.proofs.OnDisksLemmas.{given_back, lives_recovered, rests_stand, lives_refused, rests_in_recovery}
use Rattle.cue_engine.proofs.OnDisksLemmas.{formed_rests, unformed_rests}
use Rattle.cue_engine.proofs.laws.lives.recover.Goals as goal
use Rattle.cue_keeper.specs.declared.fault.StoreFault.TheVariants.{Disk}

pub returns-clause-promised : goal.returns-clause-promised
returns-clause-promised g c = λ first second life.
    let d = g.D.Disk in
    let reads = g.met.D.Disk.reads_as_image in
    given_back state_of queue_of life (d.held c.args.first) (d.held c.args.second) (reads c.args.first first)
    (reads c.args.second second) c.recover.result (c.recover.ensures.stood first second)
    (at_made c.recover.result (λ _ recovered. recovered.owes.queue) c.recover.ensures.recovered)

pub returns-clause-recovered : goal.returns-clause-recovered
returns-clause-recovered g c = λ first second life.
    let d = g.D.Disk in
    let reads = g.met.D.Disk.reads_as_image in
    lives_recovered state_of queue_of life (d.held c.args.first) (d.held c.args.second) (reads c.args.first first)
    (reads c.args.second second) c.recover.result (c.recover.ensures.stood first second)
    (at_made c.recover.result (λ _ recovered. recovered.owes.queue) c.recover.ensures.recovered)

pub returns-clause-readable : goal.returns-clause-readable
returns-clause-readable g c = λ first second life at.
    let d = g.D.Disk in
    let reads = g.met.D.Disk.reads_as_image in
    let stands = rests_stand life (d.held c.args.first) (d.held c.args.second) (reads c.args.first first)
    (reads c.args.second second) at in
    c.recover.ensures.refused.readable first second stands.0 stands.1

pub returns-clause-refused : goal.returns-clause-refused
returns-clause-refused g c = λ first second life.
    lives_refused g.D.Disk g.met.D.Disk.held_now formed_rests Disk first_of second_of c.args.first c.args.second life
    c.recover.result (c.recover.ensures.keeps.0.honest.1 first) (c.recover.ensures.keeps.1.honest.1 second)
    (c.recover.ensures.refused.unwritten first second)

pub returns-clause-stopped : goal.returns-clause-stopped
returns-clause-stopped g c = λ first second life.
    rests_in_recovery g.D.Disk g.met.D.Disk.held_now formed_rests c.args.first c.args.second
    (first_after first_of c.recover.result) (second_after second_of c.recover.result) life first second
    (c.recover.ensures.any_moment first second)

pub returns-clause-refused_unformed : goal.returns-clause-refused_unformed
returns-clause-refused_unformed g c = λ first second life.
    lives_refused g.D.Disk g.met.D.Disk.held_now unformed_rests Disk first_of second_of c.args.first c.args.second life
    c.recover.result (c.recover.ensures.keeps.0.honest.1 first) (c.recover.ensures.keeps.1.honest.1 second)
    (c.recover.ensures.refused.unwritten first second)

pub returns-clause-stopped_unformed : goal.returns-clause-stopped_unformed
returns-clause-stopped_unformed g c = λ first second life.
    rests_in_recovery g.D.Disk g.met.D.Disk.held_now unformed_rests c.args.first c.args.second
    (first_after first_of c.recover.result) (second_after second_of c.recover.result) life first second
    (c.recover.ensures.any_moment first second)
