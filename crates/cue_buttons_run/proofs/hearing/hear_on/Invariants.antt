use Rattle.std.proofs.Common.{true}
use Rattle.cue_buttons_run.specs.Playing.{Goes}
use Rattle.cue_buttons_run.proofs.hearing.hear_on.Given as goal

-- each round so far was whole
abbrev pub invariant-loop : goal.invariant-loop
invariant-loop g l =
    Goes true (g.J.Jack.told l.fn.ear.jack) (g.J.Jack.told l.ear.jack) l.fn.console.panel.player l.console.panel.player
    l.fn.console.desk.station l.console.desk.station l.fn.console.desk.view
    l.console.desk.view
