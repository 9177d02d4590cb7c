use Rattle.std.proofs.Common.{◌≡◌, inr, refl, sym, subst}
use Rattle.std.specs.Prelude.{IfOk}
use Rattle.cue_log.specs.Opened as log
use Rattle.cue_log.specs.Observed.{disk_of, generation_of}
use Rattle.cue_snap.specs.Found.{disk_in, IsFound, IsChosen}
use Rattle.cue_snap.specs.Observed.{second_after, RefusedAs}
use Rattle.cue_snap.specs.Opened.{second_opened}
use Rattle.cue_snap.specs.Pair.{IsSpoiled, OneGeneration}
use Rattle.cue_snap.specs.declared.choosing.Unfit.TheVariants.{Damaged}
use Rattle.cue_snap.proofs.PairLemmas.{absent_leaves_older, pair_leaves}
use Rattle.cue_snap.proofs.ChosenLemmas.{chosen, refused_as}
use Rattle.cue_snap.proofs.choosing.beside_area.Goals as goal

pub returns-in-Area-clause-first : goal.returns-in-Area-clause-first
returns-in-Area-clause-first g c = c.newer.ensures.first

pub returns-in-Area-clause-second : goal.returns-in-Area-clause-second
returns-in-Area-clause-second g c = subst (λ (found : _). second_after second_opened c.newer.result ≡ disk_in found)
    (sym c.in-Area.is) c.newer.ensures.second

pub returns-in-Area-clause-works : goal.returns-in-Area-clause-works
returns-in-Area-clause-works g c = c.newer.ensures.works

pub returns-in-Area-clause-chosen : goal.returns-in-Area-clause-chosen
returns-in-Area-clause-chosen g c =
    subst (λ (found : _). g.D.Disk.is_honest (disk_of c.args.first.log) → g.D.Disk.is_honest (disk_in found)
    → IfOk c.newer.result (IsChosen g.D.Disk.held (disk_of c.args.first.log) (disk_in found))) (sym c.in-Area.is)
    c.newer.ensures.chosen

pub returns-in-Area-clause-damaged : goal.returns-in-Area-clause-damaged
returns-in-Area-clause-damaged g c =
    let held = g.D.Disk.held in
    let a = disk_of c.args.first.log in
    let b = disk_of c.in-Area.second.log in
    subst (λ (found : _). g.D.Disk.is_honest a → g.D.Disk.is_honest (disk_in found)
    → RefusedAs Damaged (IsSpoiled (held a).bytes (held (disk_in found)).bytes) c.newer.result) (sym c.in-Area.is)
    (λ honest_a honest_b. refused_as Damaged (OneGeneration (held a).bytes (held b).bytes)
    (IsSpoiled (held a).bytes (held b).bytes) c.newer.result (λ one. inr (inr one))
    (c.newer.ensures.damaged honest_a honest_b))

pub pair_of-requires-clause-older : goal.pair_of-requires-clause-older
pair_of-requires-clause-older g c =
    let held = g.D.Disk.held in
    let absent = subst (λ (found : _). g.D.Disk.is_honest (disk_in found) → IsFound g.D.Disk.held found) c.in-Absent.is
    c.requires.second_found in
    λ honest. absent_leaves_older (held c.in-Absent.second) (generation_of c.args.first.log) (absent honest)

-- the only area
pub returns-in-Absent-clause-chosen : goal.returns-in-Absent-clause-chosen
returns-in-Absent-clause-chosen g c =
    let held = g.D.Disk.held in
    let a = disk_of c.args.first.log in
    let b = c.in-Absent.second in
    let area = log.area_read c.args.first in
    let generation = generation_of c.args.first.log in
    let absent = subst (λ (found : _). g.D.Disk.is_honest (disk_in found) → IsFound g.D.Disk.held found) c.in-Absent.is
    c.requires.second_found in
    subst (λ (found : _). g.D.Disk.is_honest a → g.D.Disk.is_honest (disk_in found)
    → IsChosen held a (disk_in found) c.pair_of.result) (sym c.in-Absent.is)
    (λ honest_a honest_b. chosen held a b a c.pair_of.result area
    (pair_leaves (held a) (held b) area generation (c.requires.first_opened honest_a).0 refl
    (absent_leaves_older (held b) generation (absent honest_b)))
    (g.met.D.Disk.reads_as_image a honest_a) (g.met.D.Disk.reads_as_image b honest_b)
    c.pair_of.ensures.read c.pair_of.ensures.snap.live (c.requires.first_opened honest_a).1)
