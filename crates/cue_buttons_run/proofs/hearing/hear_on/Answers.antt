use Rattle.std.proofs.Common.{true}
use Rattle.cue_buttons_run.proofs.PlayingLemmas.{goes_fails, goes_none, goes_round}
use Rattle.cue_buttons_run.proofs.WholeLemmas.{hears_all}
use Rattle.cue_buttons_run.proofs.hearing.hear_on.Goals as goal

pub loop-init : goal.loop-init
loop-init g c =
    goes_none true (g.J.Jack.told c.args.ear.now.jack) c.args.console.now.panel.player c.args.console.now.desk.station
    c.args.console.now.desk.view

pub returns-in_err-go_on-clause-goes : goal.returns-in_err-go_on-clause-goes
returns-in_err-go_on-clause-goes g c =
    goes_fails c.from_residual.result (g.J.Jack.told c.args.ear.now.jack) (g.J.Jack.told c.loop.ear.jack)
    (g.J.Jack.told c.go_on.new.ear.jack)
    c.args.console.now.panel.player c.loop.console.panel.player c.go_on.new.console.panel.player
    c.args.console.now.desk.station c.loop.console.desk.station c.go_on.new.console.desk.station
    c.args.console.now.desk.view
    c.loop.console.desk.view c.go_on.new.console.desk.view c.from_residual.ensures.0 c.loop.invariant
    c.in_err-go_on.ensures

pub returns-then-branch-clause-goes : goal.returns-then-branch-clause-goes
returns-then-branch-clause-goes g c =
    goes_round (g.J.Jack.told c.args.ear.now.jack) (g.J.Jack.told c.loop.ear.jack) (g.J.Jack.told
    c.go_on.new.ear.jack)
    c.args.console.now.panel.player c.loop.console.panel.player c.go_on.new.console.panel.player
    c.args.console.now.desk.station
    c.loop.console.desk.station c.go_on.new.console.desk.station c.args.console.now.desk.view c.loop.console.desk.view
    c.go_on.new.console.desk.view c.loop.invariant c.in_ok-go_on.ensures

pub returns-then-branch-clause-heard : goal.returns-then-branch-clause-heard
returns-then-branch-clause-heard g c =
    hears_all (g.J.Jack.told c.args.ear.now.jack) (g.J.Jack.told c.go_on.new.ear.jack)
    c.args.console.now.panel.player c.go_on.new.console.panel.player c.args.console.now.desk.station
    c.go_on.new.console.desk.station
    c.args.console.now.desk.view c.go_on.new.console.desk.view (goes_round (g.J.Jack.told c.args.ear.now.jack)
    (g.J.Jack.told c.loop.ear.jack) (g.J.Jack.told c.go_on.new.ear.jack)
    c.args.console.now.panel.player c.loop.console.panel.player c.go_on.new.console.panel.player
    c.args.console.now.desk.station
    c.loop.console.desk.station c.go_on.new.console.desk.station c.args.console.now.desk.view c.loop.console.desk.view
    c.go_on.new.console.desk.view c.loop.invariant c.in_ok-go_on.ensures)

pub loop-preserved : goal.loop-preserved
loop-preserved g c =
    goes_round (g.J.Jack.told c.args.ear.now.jack) (g.J.Jack.told c.loop.ear.jack) (g.J.Jack.told
    c.go_on.new.ear.jack)
    c.args.console.now.panel.player c.loop.console.panel.player c.go_on.new.console.panel.player
    c.args.console.now.desk.station
    c.loop.console.desk.station c.go_on.new.console.desk.station c.args.console.now.desk.view c.loop.console.desk.view
    c.go_on.new.console.desk.view c.loop.invariant c.in_ok-go_on.ensures
