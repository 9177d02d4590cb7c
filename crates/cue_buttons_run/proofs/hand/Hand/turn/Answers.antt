use Rattle.cue_buttons_run.proofs.WishesLemmas.{has_turned}
use Rattle.cue_buttons_run.proofs.hand.Hand.turn.Goals as goal

pub returns-clause-turned : goal.returns-clause-turned
returns-clause-turned g c =
    has_turned c.in_ok-now.now c.act.result c.args.self.now.wish c.look.new.self.wish c.act.new.self.wish
    c.args.self.now.desk.station c.look.new.self.desk.station c.act.new.self.desk.station c.look.new.self.desk.view
    c.act.new.self.desk.view c.in_ok-now.ensures.wish c.in_ok-now.ensures.looks c.act.ensures
