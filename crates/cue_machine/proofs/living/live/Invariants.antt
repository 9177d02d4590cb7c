use Rattle.std.proofs.Common.{◌≤◌}
use Rattle.cue_machine.specs.Living.{HasLived}
use Rattle.cue_machine.proofs.living.live.Given as goal

abbrev pub invariant-loop-taken : goal.invariant-loop-taken
invariant-loop-taken g l =
    HasLived g.M.Machine l.fn.machine l.machine (g.E.Ears.told l.fn.ears) (g.E.Ears.told l.ears)
    (g.P.Post.left l.fn.post) (g.P.Post.left l.post) l.taken
    × (l.taken ≤ l.turns)
