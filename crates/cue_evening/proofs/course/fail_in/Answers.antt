use Rattle.std.proofs.Common.{arith}
use Rattle.std.proofs.lemmas.List.Edits.{map_over_more}
use Rattle.cue_evening.specs.Course.{failing}
use Rattle.cue_evening.proofs.course.fail_in.Goals as goal

pub loop-followed-preserved : goal.loop-followed-preserved
loop-followed-preserved c =
    rw (c.in_ok-fail.ensures, ← c.followed-item.is)
    (map_over_more (failing c.args.seq c.args.failure.now) c.deref_mut-followed-items.result.now
    c.loop-followed.followed-items c.loop-followed.followed-index c.followed-item.result
    (omega arith) c.loop-followed.invariant c.followed-item.is)
