use Rattle.std.proofs.Common.{◌≡◌, ℕ, List, Some, ap, sym, subst}
use Rattle.cue_disk.specs.Disk.{Contents}
use Rattle.cue_keeper.specs.declared.fault.StoreFault.{StoreFault}
use Rattle.cue_keeper.specs.declared.fault.StoreFault.TheVariants as store
use Rattle.cue_keeper.specs.Opening.{IsOfOpening}
use Rattle.cue_copies.specs.Copies.{CannotBeOpened}
use Rattle.cue_copies.proofs.CopyLemmas.{opened_in_memory}
use Rattle.cue_copies.proofs.copying.open_bytes.Goals as goal

pub returns-clause-refused : goal.returns-clause-refused
returns-clause-refused c =
    let x = c.in-Ok.first.medium.bytes.items in
    let y = c.in-Ok.second.medium.bytes.items in
    let why = c.in-Err.ensures.opens in
    let never = λ (f : StoreFault) (is : c.in-Err.fault ≡ f). subst IsOfOpening is why.no_other in
    let fault = c.fault_in_memory.result in
    let found : CannotBeOpened fault x y = subst (λ (f : StoreFault). CannotBeOpened f x y)
    (sym c.fault_in_memory.ensures)
    (opened_in_memory c.in-Err.fault x y (never store.NotEmpty, never store.Full, never store.Exhausted)
    (λ is. why.pair.empty tt tt (ap Some is)) (λ is. why.pair.spoiled tt tt (ap Some is))
    (λ is. why.version tt tt (ap Some is)) (λ is. why.malformed tt tt (ap Some is))) in
    subst (λ (x : List ℕ). CannotBeOpened fault x c.args.second.now)
    (ap (λ (held : Contents). held.bytes) c.in-Ok.ensures.0.held)
    (subst (λ (y : List ℕ). CannotBeOpened fault x y) (ap (λ (held : Contents). held.bytes) c.in-Ok.ensures.1.held)
    found)
