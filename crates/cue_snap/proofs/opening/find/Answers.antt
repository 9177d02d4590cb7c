use Rattle.std.specs.Prelude.{IfOk}
use Rattle.std.proofs.Common.{◌≡◌, List, ℕ, Result, Ok, Err, refl, sym, ◌∙◌, subst}
use Rattle.cue_disk.specs.declared.disk.Disk.{Ghosts}
use Rattle.cue_disk.specs.Disk.{MoreFailures}
use Rattle.cue_log.specs.Log.{IsDamaged}
use Rattle.cue_log.specs.Observed.{disk_after}
use Rattle.cue_log.specs.declared.opening.OpenFault.{OpenFault as AreaFault}
use Rattle.cue_log.specs.declared.opening.OpenFault.TheVariants as area
use Rattle.cue_snap.specs.Found.{disk_in, IsFound}
use Rattle.cue_snap.specs.Observed.{FailsAs, CountsOnlyAs}
use Rattle.cue_snap.specs.Refusals.{found_by}
use Rattle.cue_snap.specs.declared.choosing.Found.{Found}
use Rattle.cue_snap.specs.declared.choosing.Found.TheVariants as found
use Rattle.cue_snap.specs.declared.opening.OpenFault.{OpenFault}
use Rattle.cue_snap.specs.declared.opening.OpenFault.TheVariants as fault
use Rattle.cue_snap.proofs.opening.find.Goals as goal

-- what holds of each answer, by the fault of the area
by_fault : {D : Type 0} {disk : Ghosts D} (P : Result (Found D disk) (OpenFault × D) → Type 0) (f : AreaFault) (d : D)
    (r : Result (Found D disk) (OpenFault × D)) → r ≡ found_by f d
    → (f ≡ area.Absent → P (Ok (found.Absent d))) → (f ≡ area.Damaged → P (Ok (found.Damaged d)))
    → (f ≡ area.Disk → P (Err (fault.Disk, d))) → (f ≡ area.Memory → P (Err (fault.Memory, d))) → P r
by_fault P area.Absent d r is absent damaged failed memory = subst P (sym is) (absent refl)
by_fault P area.Damaged d r is absent damaged failed memory = subst P (sym is) (damaged refl)
by_fault P area.Disk d r is absent damaged failed memory = subst P (sym is) (failed refl)
by_fault P area.Memory d r is absent damaged failed memory = subst P (sym is) (memory refl)

pub returns-in-Err-clause-found : goal.returns-in-Err-clause-found
returns-in-Err-clause-found g c = λ honest.
    let held = g.D.Disk.held in
    let refused = c.in-Err.ensures in
    by_fault (λ r. IfOk r (IsFound held)) c.in-Err.fault c.in-Err.disk c.found_by.result c.found_by.ensures.table
    (λ is. refused.stays_absent honest is)
    (λ is. subst (λ (bytes : List ℕ). IsDamaged bytes) (sym (refused.bytes honest)) (refused.damaged honest is))
    (λ is. tt) (λ is. tt)

pub returns-in-Err-clause-disk : goal.returns-in-Err-clause-disk
returns-in-Err-clause-disk g c =
    let failures = g.D.Disk.failures in
    by_fault (λ r. FailsAs fault.Disk (MoreFailures (failures c.args.disk) (failures (disk_after disk_in r))) r)
    c.in-Err.fault c.in-Err.disk c.found_by.result c.found_by.ensures.table
    (λ is. tt) (λ is. tt) (λ is _. c.in-Err.ensures.disk is) (λ is wrong. absurd (cc wrong))

pub returns-in-Err-clause-went_through : goal.returns-in-Err-clause-went_through
returns-in-Err-clause-went_through g c =
    let failures = g.D.Disk.failures in
    let other : (f : AreaFault) → c.in-Err.fault ≡ f → (f ≡ area.Disk → ⊥)
    → failures c.in-Err.disk ≡ failures c.args.disk =
    λ f is not. c.in-Err.ensures.went_through (λ wrong. not (sym is ∙ wrong)) in
    by_fault (λ r. CountsOnlyAs fault.Disk (failures c.args.disk) (failures (disk_after disk_in r)) r) c.in-Err.fault
    c.in-Err.disk c.found_by.result c.found_by.ensures.table
    (λ is. other area.Absent is (λ wrong. cc wrong)) (λ is. other area.Damaged is (λ wrong. cc wrong))
    (λ is not. absurd (not refl)) (λ is _. other area.Memory is (λ wrong. cc wrong))
