use Rattle.std.proofs.Common.{◌<◌, sym, subst, refl, arith}
use Rattle.cue_log.specs.Opened as log
use Rattle.cue_log.specs.Observed.{disk_of, generation_of}
use Rattle.cue_snap.specs.Pair.{LeavesOlder}
use Rattle.cue_snap.proofs.PairLemmas.{area_leaves_older, pair_leaves, leaves_swapped}
use Rattle.cue_snap.proofs.ChosenLemmas.{chosen}
use Rattle.cue_snap.proofs.choosing.newer.Goals as goal

pub pair_of-requires-clause-older : goal.pair_of-requires-clause-older
pair_of-requires-clause-older g c = λ honest.
    let held = g.D.Disk.held in
    let same = c.retire.ensures.disk in
    let lower : generation_of c.args.second.log < generation_of c.args.first.log =
    omega (
      arith,
      c.if-first_generation-second_generation.true,
      c.generation-first_generation.ensures.number,
      c.generation-second_generation.ensures.number,
    ) in
    subst (λ (disk : _). LeavesOlder (held disk) (generation_of c.args.first.log)) (sym same)
    (area_leaves_older (held (disk_of c.args.second.log)) (log.area_read c.args.second) (generation_of c.args.first.log)
    (c.requires.second_opened (subst (λ (disk : _). g.D.Disk.is_honest disk) same honest)).0 lower)

pub pair_of-requires-then-first_generation-second_generation-2-clause-older :
    goal.pair_of-requires-then-first_generation-second_generation-2-clause-older
pair_of-requires-then-first_generation-second_generation-2-clause-older g c = λ honest.
    let held = g.D.Disk.held in
    let same = c.retire-then-first_generation-second_generation-2.ensures.disk in
    let lower : generation_of c.args.first.log < generation_of c.args.second.log =
    omega (
      arith,
      c.if-first_generation-second_generation-2.true,
      c.generation-first_generation.ensures.number,
      c.generation-second_generation.ensures.number,
    ) in
    subst (λ (disk : _). LeavesOlder (held disk) (generation_of c.args.second.log)) (sym same)
    (area_leaves_older (held (disk_of c.args.first.log)) (log.area_read c.args.first) (generation_of c.args.second.log)
    (c.requires.first_opened (subst (λ (disk : _). g.D.Disk.is_honest disk) same honest)).0 lower)

-- the second disk has the newer area
pub returns-then-first_generation-second_generation-2-clause-chosen :
    goal.returns-then-first_generation-second_generation-2-clause-chosen
returns-then-first_generation-second_generation-2-clause-chosen g c = λ honest_a honest_b.
    let held = g.D.Disk.held in
    let a = disk_of c.args.first.log in
    let b = disk_of c.args.second.log in
    let area = log.area_read c.args.second in
    let lower : generation_of c.args.first.log < generation_of c.args.second.log =
    omega (
      arith,
      c.if-first_generation-second_generation-2.true,
      c.generation-first_generation.ensures.number,
      c.generation-second_generation.ensures.number,
    ) in
    let older = area_leaves_older (held a) (log.area_read c.args.first) (generation_of c.args.second.log)
    (c.requires.first_opened honest_a).0 lower in
    chosen held a b b c.pair_of-then-first_generation-second_generation-2.result area
    (leaves_swapped (held b) (held a) area (pair_leaves (held b) (held a) area (generation_of c.args.second.log)
    (c.requires.second_opened honest_b).0 refl older))
    (g.met.D.Disk.reads_as_image a honest_a) (g.met.D.Disk.reads_as_image b honest_b)
    c.pair_of-then-first_generation-second_generation-2.ensures.read
    c.pair_of-then-first_generation-second_generation-2.ensures.snap.live (c.requires.second_opened honest_b).1

-- the first disk has the newer area
pub returns-then-first_generation-second_generation-clause-chosen :
    goal.returns-then-first_generation-second_generation-clause-chosen
returns-then-first_generation-second_generation-clause-chosen g c = λ honest_a honest_b.
    let held = g.D.Disk.held in
    let a = disk_of c.args.first.log in
    let b = disk_of c.args.second.log in
    let area = log.area_read c.args.first in
    let lower : generation_of c.args.second.log < generation_of c.args.first.log =
    omega (
      arith,
      c.if-first_generation-second_generation.true,
      c.generation-first_generation.ensures.number,
      c.generation-second_generation.ensures.number,
    ) in
    let older = area_leaves_older (held b) (log.area_read c.args.second) (generation_of c.args.first.log)
    (c.requires.second_opened honest_b).0 lower in
    chosen held a b a c.pair_of.result area
    (pair_leaves (held a) (held b) area (generation_of c.args.first.log) (c.requires.first_opened honest_a).0 refl
    older)
    (g.met.D.Disk.reads_as_image a honest_a) (g.met.D.Disk.reads_as_image b honest_b)
    c.pair_of.ensures.read c.pair_of.ensures.snap.live (c.requires.first_opened honest_a).1
