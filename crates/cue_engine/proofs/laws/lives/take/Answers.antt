use Rattle.std.proofs.Common.{◌∷◌, [], refl}
use Rattle.std.specs.Result.{result_err}
use Rattle.cue_engine.specs.Inputs.{input_view}
use Rattle.cue_engine.proofs.LifeLemmas.{lives_committed, lives_still, promised_in_commit, rests_in_commit}
use Rattle.cue_engine.proofs.laws.lives.take.Goals as goal

pub returns-clause-taken : goal.returns-clause-taken
returns-clause-taken g c = λ life runs. lives_committed c.args.engine.now c.take.new.self runs
    ((c.args.now, input_view c.args.input) ∷ []) c.take.result c.take.ensures.gives

pub returns-clause-not_taken : goal.returns-clause-not_taken
returns-clause-not_taken g c = λ life runs.
    lives_still c.args.engine.now c.take.new.self runs c.take.result c.take.ensures.same

pub returns-clause-promised : goal.returns-clause-promised
returns-clause-promised g c = λ life runs. promised_in_commit c.args.engine.now c.take.new.self runs
    ((c.args.now, input_view c.args.input) ∷ []) _ (result_err c.take.result) refl c.take.ensures.accepts

pub returns-clause-stopped : goal.returns-clause-stopped
returns-clause-stopped g c = λ life runs. rests_in_commit c.args.engine.now c.take.new.self runs
    ((c.args.now, input_view c.args.input) ∷ []) _ (result_err c.take.result) refl c.take.ensures.accepts
