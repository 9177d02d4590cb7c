use Rattle.std.proofs.Common.{refl, [], ◌∷◌}
use Rattle.cue_core.specs.Happenings.{events_at, recovered}
use Rattle.cue_keeper.specs.declared.fault.Fault.TheVariants as fault
use Rattle.cue_keeper.specs.Observed.{state_of, pair_of}
use Rattle.cue_keeper.proofs.CommittedLemmas.{out_of_memory, refuses, refuses_too}
use Rattle.cue_engine.proofs.recovering.close_undecided.Goals as goal

-- no call was made
pub returns-in_err-offered-clause-accepts : goal.returns-in_err-offered-clause-accepts
returns-in_err-offered-clause-accepts g c =
    let old = c.args.keeper.now in
    let s = state_of old in
    let bs = events_at s recovered ∷ [] in
    refuses bs c.from_residual.result fault.Memory old old c.from_residual.ensures.1 refl
    (out_of_memory s bs (pair_of old) g.met.D.Disk.held_now
    (λ h k. c.is_broken-broken.ensures.stands h k c.requires.works) c.requires.works)

pub returns-in_err-keep-clause-accepts : goal.returns-in_err-keep-clause-accepts
returns-in_err-keep-clause-accepts g c =
    refuses_too (events_at (state_of c.args.keeper.now) recovered ∷ []) c.from_residual-in_err-keep.result
    c.in_err-keep.field-0.0 c.args.keeper.now c.keep.new.keeper c.from_residual-in_err-keep.ensures.1
    (rw (c.in_ok-offered.ensures.group, c.state.ensures) at c.in_err-keep.ensures.accepts)

pub returns-clause-accepts : goal.returns-clause-accepts
returns-clause-accepts g c = rw (c.in_ok-offered.ensures.group, c.state.ensures) at c.in_ok-keep.ensures.accepts
