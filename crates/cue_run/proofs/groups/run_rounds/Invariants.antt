use Rattle.std.proofs.Common.{◌≡◌, ◌≤◌, ◌-◌, length, vec_capacity}
use Rattle.cue_engine.specs.Observed.{state_of}
use Rattle.cue_run.specs.Grouping.{RanSoFar}
use Rattle.cue_run.specs.Watching.{Showed}
use Rattle.cue_run.proofs.groups.run_rounds.Given as goal

abbrev pub invariant-loop-taken : goal.invariant-loop-taken
invariant-loop-taken g l =
    RanSoFar (length l.fn.buffer) l.taken l.unsent l.fn.engine l.engine (g.S.Source.left l.fn.source)
    (g.S.Source.left l.source) (g.W.Wire.told l.fn.wire) (g.W.Wire.told l.wire)
    × (length l.buffer ≡ length l.fn.buffer)
    × (vec_capacity l.ends ≡ vec_capacity l.fn.ends)
    × (l.taken ≤ l.turns)
    × Showed l.taken (g.V.Watch.seen l.fn.watch) (state_of l.fn.engine) (state_of l.engine) (g.V.Watch.seen l.watch)

abbrev pub decreases-loop-taken : goal.decreases-loop-taken
decreases-loop-taken g l = l.turns - l.taken
