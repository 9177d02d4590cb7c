use Rattle.std.proofs.Common.{ap, sym, ◌∙◌}
use Rattle.cue_core.specs.State.{ShowState}
use Rattle.cue_keeper.specs.Observed as kept
use Rattle.cue_outbox.specs.Sending.{datagrams}
use Rattle.cue_engine.specs.Groups.{batches_given, sends_given}
use Rattle.cue_engine.proofs.LifeLemmas.{lives_as_before}
use Rattle.cue_engine.proofs.laws.lives.rest.Goals as goal

pub returns-clause-same : goal.returns-clause-same
returns-clause-same g c = λ inputs offered.
    let said = c.rest.ensures.offered in
    let same = sym (ap kept.state_of c.rest.ensures.keeper) in
    record {
      batches = said.0 ∙ (offered.batches ∙ ap (λ (s : ShowState). batches_given s inputs) same);
      sends = said.1 ∙ (offered.sends ∙ ap (λ (s : ShowState). datagrams (sends_given s inputs)) same);
    }

pub returns-clause-lives : goal.returns-clause-lives
returns-clause-lives g c = λ life runs. lives_as_before c.args.engine.now c.rest.new.self runs
    (ap kept.state_of c.rest.ensures.keeper) c.rest.ensures.queue
