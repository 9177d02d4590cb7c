use Rattle.cue_disk.proofs.MomentLemmas.{weaker, and_then}
use Rattle.cue_disk.specs.Disk.{CountsFailure}
use Rattle.cue_log.specs.Area.{body_text, fresh}
use Rattle.cue_log.specs.Log.{IsNoneOr, IsOldOrAbsent}
use Rattle.cue_log.specs.Observed.{disk_of, formed_disk}
use Rattle.std.proofs.Common.{ℕ, [], ◌∷◌, ◌++◌, inl, subst}
use Rattle.cue_log.proofs.SettledLemmas.{if_ok}
use Rattle.cue_snap.specs.Pair.{IsOldOrNew}
use Rattle.cue_snap.proofs.BarrierLemmas.{none_or_new}
use Rattle.cue_snap.proofs.RenewalLemmas.{over_closed}
use Rattle.cue_snap.proofs.turning.turn_over_to.Goals as goal

pub returns-clause-bytes : goal.returns-clause-bytes
returns-clause-bytes g c = λ honest.
    let held = g.D.Disk.held in
    if_ok c.renew.result
    (over_closed (held c.args.spare.now).bytes (held c.close.new.disk).bytes (held (disk_of c.renew.new.self)).bytes
    (body_text c.args.generation c.args.snapshot.now ++ 0 ∷ []) (c.in_ok-close.ensures.bytes honest))
    (c.renew.ensures.bytes (c.close.ensures.honest.1 honest))

pub returns-clause-formed : goal.returns-clause-formed
returns-clause-formed g c = λ honest. c.renew.ensures.formed (c.close.ensures.honest.1 honest)

pub returns-clause-area : goal.returns-clause-area
returns-clause-area g c = λ honest. c.renew.ensures.area (c.close.ensures.honest.1 honest)

-- closed, and then formed
pub returns-clause-any_moment : goal.returns-clause-any_moment
returns-clause-any_moment g c = λ honest.
    let held = g.D.Disk.held c.args.spare.now in
    let area = fresh c.args.generation c.args.snapshot.now in
    let new = formed_disk c.renew.result (disk_of c.renew.new.self) c.renew.new.spare in
    and_then g.D.Disk.moment g.D.Disk.held_at c.args.spare.now c.close.new.disk new (IsOldOrNew held area)
    (weaker g.D.Disk.moment g.D.Disk.held_at c.args.spare.now c.close.new.disk (IsOldOrAbsent held)
    (IsOldOrNew held area) (λ image left. inl left) (c.close.ensures.any_moment honest))
    (weaker g.D.Disk.moment g.D.Disk.held_at c.close.new.disk new (IsNoneOr area) (IsOldOrNew held area)
    (none_or_new held area) (c.renew.ensures.any_moment (c.close.ensures.honest.1 honest)))

pub returns-clause-count : goal.returns-clause-count
returns-clause-count g c =
    subst (λ (n : ℕ). CountsFailure c.renew.result n
    (g.D.Disk.failures (formed_disk c.renew.result (disk_of c.renew.new.self) c.renew.new.spare)))
    c.in_ok-close.ensures.count c.renew.ensures.count

pub returns-clause-honest : goal.returns-clause-honest
returns-clause-honest g c = (
  λ honest. c.close.ensures.honest.0 (c.renew.ensures.honest.0 honest),
  λ honest. c.renew.ensures.honest.1
      (c.close.ensures.honest.1 honest),
)
