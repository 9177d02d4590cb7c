use Rattle.std.proofs.Common.{arith}
use Rattle.cue_machine.proofs.LivingLemmas.{one_turn_more}
use Rattle.cue_machine.proofs.living.live.Goals as goal

pub loop-taken-preserved : goal.loop-taken-preserved
loop-taken-preserved g c = (
  one_turn_more g.M.Machine c.args.machine.now c.loop-taken.machine c.turn_once.new.machine
      (g.E.Ears.told c.args.ears.now) (g.E.Ears.told c.loop-taken.ears) (g.E.Ears.told c.turn_once.new.ears)
      (g.P.Post.left c.args.post.now) (g.P.Post.left c.loop-taken.post) (g.P.Post.left c.turn_once.new.post)
      c.loop-taken.taken c.loop-taken.invariant.0 c.in_default.ensures.turned,
  omega arith,
)
