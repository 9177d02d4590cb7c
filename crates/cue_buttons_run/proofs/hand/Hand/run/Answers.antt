use Rattle.cue_buttons_run.proofs.WishesLemmas.{cut_if, turned_more, turned_rest, wished_cut}
use Rattle.cue_buttons_run.proofs.WishesLemmas.{wished_end_by, wished_stop}
use Rattle.cue_buttons_run.proofs.hand.Hand.run.Goals as goal

pub returns-in_err-end-clause-cut : goal.returns-in_err-end-clause-cut
returns-in_err-end-clause-cut g c =
    cut_if c.from_residual.result c.args.self.now.wish c.args.self.now.desk.station c.turn.new.self.desk.station
    (wished_cut c.args.self.now.wish c.loop.self.wish c.args.self.now.desk.station c.loop.self.desk.station
    c.turn.new.self.desk.station c.loop.invariant c.in_err-end.ensures.looks)

pub returns-in-Some-clause-ends : goal.returns-in-Some-clause-ends
returns-in-Some-clause-ends g c =
    wished_end_by c.in_ok-end.field-0 c.in-Some.end c.args.self.now.wish c.loop.self.wish c.turn.new.self.wish
    c.args.self.now.desk.station c.loop.self.desk.station c.turn.new.self.desk.station c.in-Some.is c.loop.invariant
    c.in_ok-end.ensures.turned

pub returns-in_err-rest-clause-cut : goal.returns-in_err-rest-clause-cut
returns-in_err-rest-clause-cut g c =
    cut_if c.from_residual-in_err-rest.result c.args.self.now.wish c.args.self.now.desk.station
    c.rest.new.self.desk.station
    (wished_stop c.args.self.now.wish c.rest.new.self.wish c.args.self.now.desk.station c.rest.new.self.desk.station
    (turned_rest c.args.self.now.wish c.turn.new.self.wish c.rest.new.self.wish c.args.self.now.desk.station
    c.turn.new.self.desk.station c.rest.new.self.desk.station
    (turned_more c.in_ok-end.field-0 c.args.self.now.wish c.loop.self.wish c.turn.new.self.wish
    c.args.self.now.desk.station c.loop.self.desk.station c.turn.new.self.desk.station c.loop.invariant
    c.in_ok-end.ensures.turned) c.in_err-rest.ensures.wish c.in_err-rest.ensures.station))

pub returns-clause-cut : goal.returns-clause-cut
returns-clause-cut g c =
    wished_stop c.args.self.now.wish c.loop.self.wish c.args.self.now.desk.station c.loop.self.desk.station
    c.loop.invariant
