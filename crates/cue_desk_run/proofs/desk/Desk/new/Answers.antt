use Rattle.std.proofs.Common.{subst, sym}
use Rattle.cue_station.specs.declared.station.Station.{Station}
use Rattle.cue_desk_run.proofs.LeaveLemmas.{begins}
use Rattle.cue_desk_run.specs.Leaving.{Begins}
use Rattle.cue_desk_run.proofs.desk.Desk.new.Goals as goal

-- src/desk.rt
pub returns-clause-begins : goal.returns-clause-begins
returns-clause-begins g c =
    subst (λ (s : Station). Begins s c.send.new.self.asks.outlet) (sym c.send.ensures.station)
    (begins c.new-station.result c.first_step.new.station c.in-Ok.step c.new-4.result.outlet
    c.send.new.self.asks.outlet c.new-station.ensures.after c.in-Ok.ensures.first c.new-4.ensures.unused
    c.send.ensures.sends)
