use Rattle.std.proofs.lemmas.Result.{IfOk-weaker}
use Rattle.cue_station.specs.Stepping.{KeepsMade}
use Rattle.cue_station.proofs.station.Station.step_in.Goals as goal

-- src/station.rt
pub returns-clause-ok : goal.returns-clause-ok
returns-clause-ok c =
    IfOk-weaker c.keep.result (KeepsMade c.args.self.now c.in_ok-made.made c.keep.new.self) _
    (λ step k. record { made = c.in_ok-made.made; makes = c.in_ok-made.ensures; keeps = k }) c.keep.ensures.ok
