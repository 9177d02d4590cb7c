use Rattle.cue_station.proofs.TakenLemmas.{step-kept}
use Rattle.cue_station.proofs.station.Station.step.Goals as goal

-- src/station.rt
pub returns-in-Ok-clause-keeps : goal.returns-in-Ok-clause-keeps
returns-in-Ok-clause-keeps c =
    let t = c.take_in-heard in
    step-kept c.args.self.now c.args.input t.new.reading t.new.relay t.result.0 c.step_in.new.self c.in-Ok.step
    t.ensures.reading t.ensures.relay t.ensures.heard c.in-Ok.ensures.ok
