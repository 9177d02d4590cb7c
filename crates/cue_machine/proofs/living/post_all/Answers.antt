use Rattle.cue_machine.proofs.LivingLemmas.{posts_more}
use Rattle.cue_machine.specs.Posting.{given_as}
use Rattle.cue_machine.proofs.living.post_all.Goals as goal

pub loop-nth-preserved : goal.loop-nth-preserved
loop-nth-preserved g c =
    posts_more g.M.Machine.after_loss c.args.out.now c.loop-nth.nth
    (given_as c.at-output.result.0 c.at-output.result.1.now) c.args.machine.now c.loop-nth.machine
    c.post_one.new.machine (g.P.Post.left c.args.post.now) (g.P.Post.left c.loop-nth.post)
    (g.P.Post.left c.post_one.new.post) c.at-output.ensures c.loop-nth.invariant c.post_one.ensures
