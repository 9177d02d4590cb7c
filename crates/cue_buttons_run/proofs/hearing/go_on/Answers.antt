use Rattle.std.proofs.Common.{inr}
use Rattle.cue_buttons_run.proofs.PlayingLemmas.{round_kept, rounds_fails}
use Rattle.cue_buttons_run.proofs.hearing.go_on.Goals as goal

pub returns-in_err-wait : goal.returns-in_err-wait
returns-in_err-wait g c =
    rounds_fails c.from_residual-in_err-wait.result (g.J.Jack.told c.args.ear.now.jack) (g.J.Jack.told
    c.round.new.ear.jack)
    c.args.console.now.panel.player c.wait.new.self.panel.player
    c.args.console.now.desk.station c.wait.new.self.desk.station c.args.console.now.desk.view c.wait.new.self.desk.view
    c.from_residual-in_err-wait.ensures.0 (inr (round_kept (g.J.Jack.told c.args.ear.now.jack) (g.J.Jack.told
    c.round.new.ear.jack)
    c.args.console.now.panel.player c.round.new.console.panel.player
    c.wait.new.self.panel.player c.args.console.now.desk.station c.round.new.console.desk.station
    c.wait.new.self.desk.station
    c.args.console.now.desk.view c.round.new.console.desk.view c.wait.new.self.desk.view c.in_ok-has_ended.ensures
    c.wait.ensures.player c.wait.ensures.station c.wait.ensures.view))

pub returns-in_ok-wait : goal.returns-in_ok-wait
returns-in_ok-wait g c =
    round_kept (g.J.Jack.told c.args.ear.now.jack) (g.J.Jack.told c.round.new.ear.jack)
    c.args.console.now.panel.player c.round.new.console.panel.player c.wait.new.self.panel.player
    c.args.console.now.desk.station
    c.round.new.console.desk.station c.wait.new.self.desk.station c.args.console.now.desk.view
    c.round.new.console.desk.view c.wait.new.self.desk.view c.in_ok-has_ended.ensures c.wait.ensures.player
    c.wait.ensures.station c.wait.ensures.view
