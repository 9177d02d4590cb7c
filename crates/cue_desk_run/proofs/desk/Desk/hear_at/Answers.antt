use Rattle.std.proofs.Common.{◌∙◌}
use Rattle.cue_desk_run.proofs.LeaveLemmas.{hears_sending}
use Rattle.cue_desk_run.proofs.WorkLemmas.{hears_as}
use Rattle.cue_desk_run.proofs.desk.Desk.hear_at.Goals as goal

-- src/desk.rt
pub returns-clause-heard : goal.returns-clause-heard
returns-clause-heard g c =
    hears_as c.args.heard c.args.at c.wall_time-wall.result c.in-Ok.step.send c.args.self.now.station c.step.new.self
    c.send.new.self.station c.in-Ok.step.view c.send.new.self.view (c.send.ensures.station ∙ c.show.ensures.station)
    (c.send.ensures.view ∙ c.show.ensures.view) c.in-Ok.ensures.keeps

pub returns-clause-sends : goal.returns-clause-sends
returns-clause-sends g c =
    hears_sending c.args.heard c.args.at c.wall_time-wall.result c.in-Ok.step.send c.args.self.now.station
    c.step.new.self c.send.new.self.station c.in-Ok.step.view c.send.new.self.view c.args.self.now.asks.outlet
    c.show.new.self.asks.outlet c.send.new.self.asks.outlet (c.send.ensures.station ∙ c.show.ensures.station)
    (c.send.ensures.view ∙ c.show.ensures.view) c.show.ensures.nothing c.in-Ok.ensures.keeps c.send.ensures.sends
