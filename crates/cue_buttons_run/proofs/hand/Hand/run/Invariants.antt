use Rattle.cue_buttons_run.proofs.WishesLemmas.{Turned}
use Rattle.cue_buttons_run.proofs.hand.Hand.run.Given as goal

-- so far it did what the wish says
abbrev pub invariant-loop : goal.invariant-loop
invariant-loop g l = Turned l.fn.self.wish l.self.wish l.fn.self.desk.station l.self.desk.station
