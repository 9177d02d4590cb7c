use Rattle.std.proofs.Common.{◌≡◌, sym, subst}
use Rattle.std.specs.Prelude.{IfOk}
use Rattle.cue_snap.specs.Found.{disk_in, IsChosen}
use Rattle.cue_snap.specs.Observed.{first_after, RefusedAs}
use Rattle.cue_snap.specs.Opened.{first_opened}
use Rattle.cue_snap.specs.Pair.{IsSpoiled, NeitherHas}
use Rattle.cue_snap.specs.declared.choosing.Unfit.TheVariants.{Damaged, Unformed}
use Rattle.cue_snap.proofs.choosing.choose.Goals as goal

pub returns-in-Area-clause-first : goal.returns-in-Area-clause-first
returns-in-Area-clause-first g c = subst (λ (found : _). first_after first_opened c.beside_area.result ≡ disk_in found)
    (sym c.in-Area.is) c.beside_area.ensures.first

pub returns-in-Area-clause-second : goal.returns-in-Area-clause-second
returns-in-Area-clause-second g c = c.beside_area.ensures.second

pub returns-in-Area-clause-works : goal.returns-in-Area-clause-works
returns-in-Area-clause-works g c = c.beside_area.ensures.works

pub returns-in-Area-clause-chosen : goal.returns-in-Area-clause-chosen
returns-in-Area-clause-chosen g c =
    subst (λ (found : _). g.D.Disk.is_honest (disk_in found) → g.D.Disk.is_honest (disk_in c.args.second)
    → IfOk c.beside_area.result (IsChosen g.D.Disk.held (disk_in found) (disk_in c.args.second))) (sym c.in-Area.is)
    c.beside_area.ensures.chosen

pub returns-in-Area-clause-damaged : goal.returns-in-Area-clause-damaged
returns-in-Area-clause-damaged g c =
    subst (λ (found : _). g.D.Disk.is_honest (disk_in found) → g.D.Disk.is_honest (disk_in c.args.second)
    → RefusedAs Damaged (IsSpoiled (g.D.Disk.held (disk_in found)).bytes
    (g.D.Disk.held (disk_in c.args.second)).bytes) c.beside_area.result) (sym c.in-Area.is)
    c.beside_area.ensures.damaged

pub returns-in-Absent-clause-first : goal.returns-in-Absent-clause-first
returns-in-Absent-clause-first g c =
    subst (λ (found : _). first_after first_opened c.beside_none.result ≡ disk_in found) (sym c.in-Absent.is)
    c.beside_none.ensures.first

pub returns-in-Absent-clause-second : goal.returns-in-Absent-clause-second
returns-in-Absent-clause-second g c = c.beside_none.ensures.second

pub returns-in-Absent-clause-works : goal.returns-in-Absent-clause-works
returns-in-Absent-clause-works g c = c.beside_none.ensures.works

pub returns-in-Absent-clause-chosen : goal.returns-in-Absent-clause-chosen
returns-in-Absent-clause-chosen g c =
    subst (λ (found : _). g.D.Disk.is_honest (disk_in found) → g.D.Disk.is_honest (disk_in c.args.second)
    → IfOk c.beside_none.result (IsChosen g.D.Disk.held (disk_in found) (disk_in c.args.second)))
    (sym c.in-Absent.is) c.beside_none.ensures.chosen

pub returns-in-Absent-clause-unformed : goal.returns-in-Absent-clause-unformed
returns-in-Absent-clause-unformed g c =
    subst (λ (found : _). g.D.Disk.is_honest (disk_in found) → g.D.Disk.is_honest (disk_in c.args.second)
    → RefusedAs Unformed (NeitherHas (g.D.Disk.held (disk_in found)).bytes
    (g.D.Disk.held (disk_in c.args.second)).bytes) c.beside_none.result) (sym c.in-Absent.is)
    c.beside_none.ensures.unformed
