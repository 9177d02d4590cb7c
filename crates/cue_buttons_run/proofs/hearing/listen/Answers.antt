use Rattle.std.proofs.Common.{ap, false, refl, true}
use Rattle.cue_buttons_run.proofs.PlayingLemmas.{listens, listens_fails, listens_not}
use Rattle.cue_buttons_run.proofs.hearing.listen.Goals as goal

pub returns-in_err-open_if_due : goal.returns-in_err-open_if_due
returns-in_err-open_if_due g c =
    listens_fails c.from_residual.result c.args.now (g.J.Jack.told c.args.ear.now.jack) (g.J.Jack.told
    c.open_if_due.new.ear.jack)
    c.args.console.now.panel.player c.open_if_due.new.console.panel.player c.args.console.now.desk.station
    c.open_if_due.new.console.desk.station c.args.console.now.desk.view c.open_if_due.new.console.desk.view
    c.from_residual.ensures.0 (listens_not c.args.now (g.J.Jack.told c.args.ear.now.jack) (g.J.Jack.told
    c.open_if_due.new.ear.jack)
    c.args.console.now.panel.player c.open_if_due.new.console.panel.player c.args.console.now.desk.station
    c.open_if_due.new.console.desk.station c.args.console.now.desk.view c.open_if_due.new.console.desk.view
    c.open_if_due.ensures.opens (ap (λ d. d.station) c.open_if_due.ensures.desk) (ap (λ d. d.view)
    c.open_if_due.ensures.desk))

pub returns-in_err-hear_out : goal.returns-in_err-hear_out
returns-in_err-hear_out g c =
    listens_fails c.from_residual-in_err-hear_out.result c.args.now (g.J.Jack.told c.args.ear.now.jack)
    (g.J.Jack.told c.hear_out.new.self.jack)
    c.args.console.now.panel.player c.hear_out.new.console.panel.player c.args.console.now.desk.station
    c.hear_out.new.console.desk.station c.args.console.now.desk.view c.hear_out.new.console.desk.view
    c.from_residual-in_err-hear_out.ensures.0 (listens false c.args.now (g.J.Jack.told c.args.ear.now.jack)
    (g.J.Jack.told c.open_if_due.new.ear.jack) (g.J.Jack.told c.hear_out.new.self.jack)
    c.args.console.now.panel.player c.open_if_due.new.console.panel.player c.begin.new.self.player
    c.hear_out.new.console.panel.player
    c.args.console.now.desk.station c.open_if_due.new.console.desk.station c.open_if_due.new.console.desk.station
    c.hear_out.new.console.desk.station c.args.console.now.desk.view c.open_if_due.new.console.desk.view
    c.open_if_due.new.console.desk.view c.hear_out.new.console.desk.view c.open_if_due.ensures.opens (ap (λ d.
    d.station)
    c.open_if_due.ensures.desk) (ap (λ d. d.view) c.open_if_due.ensures.desk) c.begin.ensures.player refl refl
    c.in_err-hear_out.ensures)

pub returns : goal.returns
returns g c =
    listens true c.args.now (g.J.Jack.told c.args.ear.now.jack) (g.J.Jack.told c.open_if_due.new.ear.jack)
    (g.J.Jack.told c.hear_out.new.self.jack)
    c.args.console.now.panel.player c.open_if_due.new.console.panel.player c.begin.new.self.player
    c.hear_out.new.console.panel.player
    c.args.console.now.desk.station c.open_if_due.new.console.desk.station c.open_if_due.new.console.desk.station
    c.hear_out.new.console.desk.station c.args.console.now.desk.view c.open_if_due.new.console.desk.view
    c.open_if_due.new.console.desk.view c.hear_out.new.console.desk.view c.open_if_due.ensures.opens (ap (λ d.
    d.station)
    c.open_if_due.ensures.desk) (ap (λ d. d.view) c.open_if_due.ensures.desk) c.begin.ensures.player refl refl
    c.in_ok-hear_out.ensures
