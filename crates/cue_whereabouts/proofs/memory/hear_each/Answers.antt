use Rattle.std.proofs.Common.{arith}
use Rattle.std.proofs.lemmas.List.Edits.{map_over_more}
use Rattle.cue_whereabouts.specs.Memory.{known_after}
use Rattle.cue_whereabouts.proofs.memory.hear_each.Goals as goal

pub loop-known-preserved : goal.loop-known-preserved
loop-known-preserved c =
    rw (c.hear_of.ensures, ← c.known-item.is)
    (map_over_more (known_after c.args.show.now c.args.events.now) c.deref_mut-known-items.result.now
    c.loop-known.known-items c.loop-known.known-index c.known-item.result
    (omega arith) c.loop-known.invariant c.known-item.is)
