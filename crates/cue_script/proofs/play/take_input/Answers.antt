use Rattle.std.specs.Prelude.{Err}
use Rattle.std.proofs.Common.{ℕ, List, ◌++◌, [], ◌∷◌, ◌∙◌, ap, append-nil, arith, sym, true≢false}
use Rattle.cue_keeper.specs.Observed.{generation_of, pair_of}
use Rattle.cue_keeper.specs.Turning.{lack_room}
use Rattle.cue_keeper.specs.declared.fault.Fault.{Fault}
use Rattle.cue_outbox.specs.Sending.{datagrams}
use Rattle.cue_engine.specs.Given.{given_of}
use Rattle.cue_engine.specs.Groups.{batches_given}
use Rattle.cue_engine.specs.Inputs.{input_view}
use Rattle.cue_engine.specs.Observed.{keeper_of, state_of}
use Rattle.cue_engine.proofs.ReopenedLemmas.{one_more}
use Rattle.cue_script.proofs.ScriptLemmas.{comes_of_taking}
use Rattle.cue_script.proofs.play.take_input.Goals as goal

pub returns-in-Ok-clause-after : goal.returns-in-Ok-clause-after
returns-in-Ok-clause-after c =
    let sends = (given_of (state_of c.args.engine) c.args.now (input_view c.args.input)).sends in
    record {
      works = c.in-Ok.ensures.accepts.pair.works;
      is = c.in-Ok.ensures.gives.state;
      owes = c.in-Ok.ensures.gives.queue
          ∙ ap (λ (owed : List (ℕ × List ℕ)). owed ++ datagrams (sends ++ [])) c.requires.ready.owes_none
          ∙ ap datagrams (append-nil sends);
    }

pub returns-in-Ok-clause-turned : goal.returns-in-Ok-clause-turned
returns-in-Ok-clause-turned c =
    let old = keeper_of c.args.engine in
    one_more (lack_room (pair_of old) (batches_given (state_of c.args.engine)
    ((c.args.now, input_view c.args.input) ∷ []))) (generation_of old) (generation_of (keeper_of c.take.new.self))
    c.in-Ok.ensures.accepts.pair.generation

pub returns-in-Err-clause-failure : goal.returns-in-Err-clause-failure
returns-in-Err-clause-failure c =
    let why = c.in-Err.ensures.accepts.pair.cause in
    rw c.refuse.ensures
    (comes_of_taking c.in-Err.fault c.from.result c.from.ensures
    (λ is. absurd (true≢false (sym (rw is at why) ∙ c.requires.ready.works)))
    (λ is. c.in-Err.ensures.no_full (ap (λ (f : Fault). Err f) is))
    (λ is. absurd (omega (arith, (rw is at why).2, c.requires.generation))))
