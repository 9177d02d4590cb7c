use Rattle.std.proofs.Common.{ℕ, inl, subst}
use Rattle.cue_disk.proofs.MomentLemmas.{weaker, and_then}
use Rattle.cue_disk.specs.Disk.{CountsFailure}
use Rattle.cue_log.specs.Area.{fresh}
use Rattle.cue_log.specs.Log.{IsNoneOr, IsOldOrAbsent}
use Rattle.cue_snap.proofs.BarrierLemmas.{old_absent}
use Rattle.cue_log.specs.Area.{body_text}
use Rattle.cue_log.specs.Observed.{disk_of, disk_after}
use Rattle.std.proofs.Common.{[], ◌∷◌, ◌++◌}
use Rattle.cue_snap.proofs.RenewalLemmas.{over_closed, at_made}
use Rattle.cue_snap.proofs.forming.form_first.Goals as goal

pub returns-in-Err-clause-any_moment : goal.returns-in-Err-clause-any_moment
returns-in-Err-clause-any_moment g c = λ honest.
    let held = g.D.Disk.held c.args.disk in
    weaker g.D.Disk.moment g.D.Disk.held_at c.args.disk c.close.new.disk (IsOldOrAbsent held)
    (IsNoneOr (fresh 1 c.args.snapshot.now))
    (λ image left. inl (old_absent held (c.requires.absent honest) image left)) (c.close.ensures.any_moment honest)

pub returns-in-Ok-clause-bytes : goal.returns-in-Ok-clause-bytes
returns-in-Ok-clause-bytes g c = λ honest.
    let held = g.D.Disk.held in
    at_made c.form.result
    (λ log. over_closed (held c.args.disk).bytes (held c.close.new.disk).bytes (held (disk_of log)).bytes
    (body_text 1 c.args.snapshot.now ++ 0 ∷ []) (c.in-Ok.ensures.bytes honest))
    (c.form.ensures.bytes (c.close.ensures.honest.1 honest))

pub returns-in-Ok-clause-formed : goal.returns-in-Ok-clause-formed
returns-in-Ok-clause-formed g c = λ honest. c.form.ensures.formed (c.close.ensures.honest.1 honest)

pub returns-in-Ok-clause-area : goal.returns-in-Ok-clause-area
returns-in-Ok-clause-area g c = λ honest. c.form.ensures.area (c.close.ensures.honest.1 honest)

-- closed, and then formed
pub returns-in-Ok-clause-any_moment : goal.returns-in-Ok-clause-any_moment
returns-in-Ok-clause-any_moment g c = λ honest.
    let held = g.D.Disk.held c.args.disk in
    let area = fresh 1 c.args.snapshot.now in
    and_then g.D.Disk.moment g.D.Disk.held_at c.args.disk c.close.new.disk (disk_after disk_of c.form.result)
    (IsNoneOr area)
    (weaker g.D.Disk.moment g.D.Disk.held_at c.args.disk c.close.new.disk (IsOldOrAbsent held) (IsNoneOr area)
    (λ image left. inl (old_absent held (c.requires.absent honest) image left)) (c.close.ensures.any_moment honest))
    (c.form.ensures.any_moment (c.close.ensures.honest.1 honest))

pub returns-in-Ok-clause-count : goal.returns-in-Ok-clause-count
returns-in-Ok-clause-count g c =
    subst (λ (n : ℕ). CountsFailure c.form.result n (g.D.Disk.failures (disk_after disk_of c.form.result)))
    c.in-Ok.ensures.count c.form.ensures.count

pub returns-in-Ok-clause-honest : goal.returns-in-Ok-clause-honest
returns-in-Ok-clause-honest g c = (
  λ honest. c.close.ensures.honest.0 (c.form.ensures.honest.0 honest),
  λ honest. c.form.ensures.honest.1
      (c.close.ensures.honest.1 honest),
)
