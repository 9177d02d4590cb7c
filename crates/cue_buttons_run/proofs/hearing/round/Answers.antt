use Rattle.std.proofs.Common.{inl, inr, refl}
use Rattle.cue_buttons_run.proofs.PlayingLemmas.{is_round, rounds_fails}
use Rattle.cue_buttons_run.proofs.hearing.round.Goals as goal

pub returns-in_err-has_ended : goal.returns-in_err-has_ended
returns-in_err-has_ended g c =
    rounds_fails c.from_residual.result (g.J.Jack.told c.args.ear.now.jack) (g.J.Jack.told c.hear_now.new.ear.jack)
    c.args.console.now.panel.player c.hear_now.new.console.panel.player
    c.args.console.now.desk.station c.hear_now.new.console.desk.station c.args.console.now.desk.view
    c.hear_now.new.console.desk.view c.from_residual.ensures.0 (inl c.in_err-has_ended.ensures)

pub returns-in_err-look : goal.returns-in_err-look
returns-in_err-look g c =
    rounds_fails c.from_residual-in_err-look.result (g.J.Jack.told c.args.ear.now.jack) (g.J.Jack.told
    c.hear_now.new.ear.jack)
    c.args.console.now.panel.player c.look.new.self.panel.player
    c.args.console.now.desk.station c.look.new.self.desk.station c.args.console.now.desk.view c.look.new.self.desk.view
    c.from_residual-in_err-look.ensures.0 (inr (is_round (g.J.Jack.told c.args.ear.now.jack) (g.J.Jack.told
    c.hear_now.new.ear.jack)
    c.args.console.now.panel.player c.hear_now.new.console.panel.player
    c.look.new.self.panel.player c.look.new.self.panel.player c.args.console.now.desk.station
    c.hear_now.new.console.desk.station
    c.look.new.self.desk.station c.look.new.self.desk.station c.args.console.now.desk.view
    c.hear_now.new.console.desk.view c.look.new.self.desk.view c.look.new.self.desk.view c.in_ok-has_ended.ensures
    c.look.ensures.looks c.look.ensures.player refl refl refl))

pub returns-in_err-tell : goal.returns-in_err-tell
returns-in_err-tell g c =
    rounds_fails c.from_residual-in_err-tell.result (g.J.Jack.told c.args.ear.now.jack) (g.J.Jack.told
    c.hear_now.new.ear.jack)
    c.args.console.now.panel.player c.tell.new.self.panel.player
    c.args.console.now.desk.station c.tell.new.self.desk.station c.args.console.now.desk.view c.tell.new.self.desk.view
    c.from_residual-in_err-tell.ensures.0 (inr (is_round (g.J.Jack.told c.args.ear.now.jack) (g.J.Jack.told
    c.hear_now.new.ear.jack)
    c.args.console.now.panel.player c.hear_now.new.console.panel.player
    c.look.new.self.panel.player c.tell.new.self.panel.player c.args.console.now.desk.station
    c.hear_now.new.console.desk.station
    c.look.new.self.desk.station c.tell.new.self.desk.station c.args.console.now.desk.view
    c.hear_now.new.console.desk.view c.look.new.self.desk.view c.tell.new.self.desk.view c.in_ok-has_ended.ensures
    c.look.ensures.looks c.look.ensures.player c.tell.ensures.player c.tell.ensures.station c.tell.ensures.view))

pub returns : goal.returns
returns g c =
    is_round (g.J.Jack.told c.args.ear.now.jack) (g.J.Jack.told c.hear_now.new.ear.jack)
    c.args.console.now.panel.player c.hear_now.new.console.panel.player c.look.new.self.panel.player
    c.tell.new.self.panel.player
    c.args.console.now.desk.station c.hear_now.new.console.desk.station c.look.new.self.desk.station
    c.tell.new.self.desk.station c.args.console.now.desk.view c.hear_now.new.console.desk.view c.look.new.self.desk.view
    c.tell.new.self.desk.view c.in_ok-has_ended.ensures c.look.ensures.looks c.look.ensures.player
    c.tell.ensures.player c.tell.ensures.station c.tell.ensures.view
