use Rattle.std.proofs.Common.{◌≡◌, take}
use Rattle.cue_engine.specs.Observed.{keeper_of, queue_of, offered_of, offered_sends_of, last_batches_of}
use Rattle.cue_run.specs.Grouping.{CountedSoFar}
use Rattle.cue_run.specs.Watching.{Saw}
use Rattle.cue_run.proofs.groups.handing.hand_out_each.Given as goal

abbrev pub invariant-loop-place : goal.invariant-loop-place
invariant-loop-place g l =
    CountedSoFar (g.W.Wire.told l.fn.wire) (queue_of l.fn.engine) (queue_of l.engine) l.unsent (g.W.Wire.told l.wire)
    × (keeper_of l.engine ≡ keeper_of l.fn.engine)
    × (offered_of l.engine ≡ offered_of l.fn.engine)
    × (offered_sends_of l.engine ≡ offered_sends_of l.fn.engine)
    × (last_batches_of l.engine ≡ last_batches_of l.fn.engine)
    × Saw (g.V.Watch.seen l.fn.watch) (take l.place (last_batches_of l.fn.engine)) (g.V.Watch.seen l.watch)
