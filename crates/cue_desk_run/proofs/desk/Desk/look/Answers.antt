use Rattle.cue_desk_run.proofs.LeaveLemmas.{sends_by}
use Rattle.cue_desk_run.proofs.WorkLemmas.{looks_by}
use Rattle.cue_desk_run.proofs.desk.Desk.look.Goals as goal

-- src/desk.rt
pub returns-clause-looks : goal.returns-clause-looks
returns-clause-looks g c =
    looks_by c.hear.result c.args.heard c.args.self.now.station c.hear.new.self.station c.args.self.now.view
    c.hear.new.self.view c.requires c.hear.ensures.heard c.hear.ensures.station

pub returns-clause-sends : goal.returns-clause-sends
returns-clause-sends g c =
    sends_by c.hear.result c.args.heard c.args.self.now.station c.hear.new.self.station c.args.self.now.view
    c.hear.new.self.view c.args.self.now.asks.outlet c.hear.new.self.asks.outlet c.requires c.hear.ensures.sends
    c.hear.ensures.station c.hear.ensures.nothing
