use Rattle.cue_buttons_run.proofs.PlayingLemmas.{hears_fails}
use Rattle.cue_buttons_run.proofs.hearing.Ear.hear.Goals as goal

pub returns-in_err-hear_piece : goal.returns-in_err-hear_piece
returns-in_err-hear_piece g c =
    hears_fails c.from_residual.result (g.J.Jack.told c.args.self.now.jack) (g.J.Jack.told c.loop.self.jack)
    (g.J.Jack.told c.hear_piece.new.self.jack) c.args.console.now.panel.player c.loop.console.panel.player
    c.hear_piece.new.console.panel.player
    c.args.console.now.desk.station c.loop.console.desk.station c.hear_piece.new.console.desk.station
    c.args.console.now.desk.view c.loop.console.desk.view c.hear_piece.new.console.desk.view c.from_residual.ensures.0
    c.loop.invariant c.in_err-hear_piece.ensures
