use Rattle.cue_desk_run.specs.Leaving.{OnlySends}
use Rattle.cue_desk_run.specs.Working.{OnlyLooks}
use Rattle.cue_desk_run.proofs.desk.Desk.hear_answers.Given as goal

-- so far it heard no press, and what left is what its machine said to send
abbrev pub invariant-loop : goal.invariant-loop
invariant-loop g l =
    OnlyLooks l.fn.self.station l.self.station
    × OnlySends l.fn.self.station l.self.station l.fn.self.asks.outlet l.self.asks.outlet
