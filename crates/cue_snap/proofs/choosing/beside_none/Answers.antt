use Rattle.std.proofs.Common.{refl, sym, subst}
use Rattle.cue_log.specs.Opened as log
use Rattle.cue_log.specs.Observed.{disk_of, generation_of}
use Rattle.cue_snap.specs.Found.{disk_in, IsFound, IsChosen}
use Rattle.cue_snap.proofs.PairLemmas.{absent_leaves_older, pair_leaves, leaves_swapped}
use Rattle.cue_snap.proofs.ChosenLemmas.{chosen}
use Rattle.cue_snap.proofs.choosing.beside_none.Goals as goal

pub pair_of-requires-clause-older : goal.pair_of-requires-clause-older
pair_of-requires-clause-older g c = λ honest. absent_leaves_older (g.D.Disk.held c.args.first)
    (generation_of c.in-Area.second.log) (c.requires.first_absent honest)

-- the only area
pub returns-in-Area-clause-chosen : goal.returns-in-Area-clause-chosen
returns-in-Area-clause-chosen g c =
    let held = g.D.Disk.held in
    let a = c.args.first in
    let b = disk_of c.in-Area.second.log in
    let area = log.area_read c.in-Area.second in
    let generation = generation_of c.in-Area.second.log in
    let opened = subst (λ (found : _). g.D.Disk.is_honest (disk_in found) → IsFound g.D.Disk.held found) c.in-Area.is
    c.requires.second_found in
    subst (λ (found : _). g.D.Disk.is_honest a → g.D.Disk.is_honest (disk_in found)
    → IsChosen held a (disk_in found) c.pair_of.result) (sym c.in-Area.is)
    (λ honest_a honest_b. chosen held a b b c.pair_of.result area
    (leaves_swapped (held b) (held a) area (pair_leaves (held b) (held a) area generation (opened honest_b).0 refl
    (absent_leaves_older (held a) generation (c.requires.first_absent honest_a))))
    (g.met.D.Disk.reads_as_image a honest_a) (g.met.D.Disk.reads_as_image b honest_b)
    c.pair_of.ensures.read c.pair_of.ensures.snap.live (opened honest_b).1)
