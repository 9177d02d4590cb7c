use Rattle.cue_stage.proofs.TickLemmas.{a_tick_orders_all_who_are_awaited}
use Rattle.cue_stage.proofs.laws.a_tick_orders_all_who_are_awaited.Goals as goal

pub returns : goal.returns
returns c = a_tick_orders_all_who_are_awaited
