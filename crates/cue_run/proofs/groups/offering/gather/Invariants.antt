use Rattle.std.proofs.Common.{◌≡◌, length, vec_len, vec_capacity}
use Rattle.cue_engine.specs.Observed.{HasRoomForAll}
use Rattle.cue_run.specs.Grouping.{HasOffered}
use Rattle.cue_run.proofs.groups.offering.gather.Given as goal

abbrev pub invariant-loop-count : goal.invariant-loop-count
invariant-loop-count g l =
    HasOffered (length l.fn.buffer) (vec_len l.fn.ends) (vec_len l.ends) l.fn.engine l.engine
    (g.S.Source.left l.fn.source) (g.S.Source.left l.source)
    × (vec_len l.ends ≡ l.count)
    × (vec_capacity l.ends ≡ vec_capacity l.fn.ends)
    × (length l.buffer ≡ length l.fn.buffer)
    × (HasRoomForAll l.fn.engine → HasRoomForAll l.engine)
