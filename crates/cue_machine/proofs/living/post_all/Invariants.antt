use Rattle.std.proofs.Common.{take}
use Rattle.cue_machine.specs.Turning.{Posts}
use Rattle.cue_machine.proofs.living.post_all.Given as goal

abbrev pub invariant-loop-nth : goal.invariant-loop-nth
invariant-loop-nth g l =
    Posts g.M.Machine.after_loss (take l.nth l.out) l.fn.machine l.machine (g.P.Post.left l.fn.post) (g.P.Post.left l.post)
