use Rattle.std.proofs.Common.{arith}
use Rattle.std.proofs.lemmas.List.Edits.{map_over_more}
use Rattle.cue_relay_machine.specs.Copies.{after_wake}
use Rattle.cue_relay_machine.proofs.copies.pass_copies.Goals as goal

pub loop-one-preserved : goal.loop-one-preserved
loop-one-preserved c =
    rw (c.pass_one.ensures, ← c.one-item.is)
    (map_over_more (after_wake c.args.now) c.deref_mut-one-items.result.now c.loop-one.one-items c.loop-one.one-index
    c.one-item.result (omega arith) c.loop-one.invariant c.one-item.is)
