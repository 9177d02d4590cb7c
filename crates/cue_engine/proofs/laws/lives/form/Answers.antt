use Rattle.cue_snap.specs.Observed.{first_after, second_after}
use Rattle.cue_snap.proofs.RenewalLemmas.{at_made}
use Rattle.cue_engine.specs.Observed.{state_of, queue_of, first_of, second_of}
use Rattle.cue_engine.proofs.OnDisksLemmas.{lives_formed, rests_in_form}
use Rattle.cue_engine.proofs.laws.lives.form.Goals as goal

pub returns-clause-formed : goal.returns-clause-formed
returns-clause-formed g c = λ life.
    let d = g.D.Disk in
    lives_formed state_of queue_of life (d.held c.args.first) (d.held c.args.second) c.form.result
    (at_made c.form.result (λ _ new. new.kept.state) c.form.ensures.first)
    (at_made c.form.result (λ _ new. new.queue) c.form.ensures.first)

pub returns-clause-stopped : goal.returns-clause-stopped
returns-clause-stopped g c = λ first second life.
    rests_in_form g.D.Disk g.met.D.Disk.held_now c.args.first c.args.second (first_after first_of c.form.result)
    (second_after second_of c.form.result) life first second (c.form.ensures.forms.pair.moments first second)
