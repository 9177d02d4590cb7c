use Rattle.std.specs.Result.{result_err}
use Rattle.cue_engine.specs.Observed.{offered_of}
use Rattle.cue_engine.proofs.LifeLemmas.{lives_committed, lives_still, promised_in_commit, rests_in_commit}
use Rattle.cue_engine.proofs.laws.lives.commit.Goals as goal

pub returns-clause-taken : goal.returns-clause-taken
returns-clause-taken g c = λ inputs offered life runs. lives_committed c.args.engine.now c.commit.new.self runs inputs
    c.commit.result (rw (offered.batches, offered.sends) at c.commit.ensures.gives)

pub returns-clause-not_taken : goal.returns-clause-not_taken
returns-clause-not_taken g c = λ life runs.
    lives_still c.args.engine.now c.commit.new.self runs c.commit.result c.commit.ensures.same

pub returns-clause-promised : goal.returns-clause-promised
returns-clause-promised g c = λ inputs offered life runs. promised_in_commit c.args.engine.now c.commit.new.self runs
    inputs (offered_of c.args.engine.now) (result_err c.commit.result) offered.batches c.commit.ensures.accepts

pub returns-clause-stopped : goal.returns-clause-stopped
returns-clause-stopped g c = λ inputs offered life runs. rests_in_commit c.args.engine.now c.commit.new.self runs
    inputs (offered_of c.args.engine.now) (result_err c.commit.result) offered.batches c.commit.ensures.accepts
