use Rattle.std.proofs.Common.{arith}
use Rattle.std.proofs.lemmas.List.Edits.{map_over_more}
use Rattle.cue_evening.specs.Course.{entering}
use Rattle.cue_evening.proofs.course.enter_in.Goals as goal

pub loop-followed-preserved : goal.loop-followed-preserved
loop-followed-preserved c =
    rw (c.enter.ensures, ← c.followed-item.is)
    (map_over_more (entering c.args.seq c.args.stage) c.deref_mut-followed-items.result.now
    c.loop-followed.followed-items c.loop-followed.followed-index c.followed-item.result
    (omega arith) c.loop-followed.invariant c.followed-item.is)
