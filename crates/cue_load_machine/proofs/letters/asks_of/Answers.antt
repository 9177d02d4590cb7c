use Rattle.cue_load_machine.proofs.PlanLemmas.{is_one}
use Rattle.cue_load_machine.proofs.letters.asks_of.Goals as goal

-- src/letters.rt:60:1
pub returns-clause-asks : goal.returns-clause-asks
returns-clause-asks c =
    is_one c.args.asked.now c.new-asks.result.items c.push_ask.new.asks.items c.in_ok-ask_of.field-0
    c.new-asks.ensures.items c.in_ok-push_ask.ensures c.in_ok-ask_of.ensures.asks
