use Rattle.std.proofs.Common.{sym, subst}
use Rattle.cue_disk.specs.Memory.{memory_bytes}
use Rattle.cue_keeper.specs.declared.fault.StoreFault.{StoreFault}
use Rattle.cue_engine.specs.Recovery.{CannotBeRecovered}
use Rattle.cue_copies.proofs.CopyLemmas.{refused_in_memory}
use Rattle.cue_copies.proofs.copying.recovery_refusal.Goals as goal

pub returns-in-Ok-clause-refusal : goal.returns-in-Ok-clause-refusal
returns-in-Ok-clause-refusal c =
    let closed = c.in-Ok.ensures.stood tt tt in
    record { state = closed.before; stand = closed.stood }

pub returns-clause-refusal : goal.returns-clause-refusal
returns-clause-refusal c =
    let x = memory_bytes c.args.first in
    let y = memory_bytes c.args.second in
    subst (λ (fault : StoreFault). CannotBeRecovered fault x y) (sym c.fault_in_memory.ensures)
    (refused_in_memory c.in-Err.fault x y (c.in-Err.ensures.refused.cause tt tt))
