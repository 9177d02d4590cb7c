use Rattle.std.proofs.Common.{true}
use Rattle.cue_buttons_run.specs.Playing.{Hears}
use Rattle.cue_buttons_run.proofs.hearing.Ear.hear.Given as goal

-- each byte so far was taken whole
abbrev pub invariant-loop : goal.invariant-loop
invariant-loop g l =
    Hears true (g.J.Jack.told l.fn.self.jack) (g.J.Jack.told l.self.jack) l.fn.console.panel.player
    l.console.panel.player
    l.fn.console.desk.station l.console.desk.station l.fn.console.desk.view
    l.console.desk.view
