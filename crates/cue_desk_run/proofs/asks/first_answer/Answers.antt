use Rattle.cue_desk_run.proofs.AskLemmas.{is_answer}
use Rattle.cue_desk_run.proofs.asks.first_answer.Goals as goal

-- src/asks.rt
pub returns-in-Some : goal.returns-in-Some
returns-in-Some c =
    is_answer c.args.asks.now c.loop-place.place c.index-asks-place.result c.in-Some.heard c.loop-place-test.true
    c.index-asks-place.is c.in-Some.ensures
