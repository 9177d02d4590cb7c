-- How a script ends: its statuses, and one that stopped.
use Rattle.std.specs.Prelude.{◌≡◌, ◌≢◌, ℕ, ◌≤◌, List, Option, Some, None, IfSome}
use Rattle.std.proofs.Common.{sym, subst, lit≤}
use Rattle.cue_core.specs.State.{ShowState}
use Rattle.cue_keeper.specs.declared.fault.StoreFault.{StoreFault}
use Rattle.cue_keeper.specs.declared.fault.StoreFault.TheVariants as store
use Rattle.cue_script.specs.declared.ending.Ending.{Ending}
use Rattle.cue_script.specs.declared.ending.Ending.TheVariants.{Done, BadLine, BadInput, Failed, Stopped}
use Rattle.cue_script.specs.declared.ending.Failure.TheVariants.{Broken, Store}
use Rattle.cue_script.specs.declared.ending.StreamFailure.{StreamFailure}
use Rattle.cue_script.specs.Endings.{status_of, store_status}
use Rattle.cue_script.specs.Script.{HasRun}

-- a script that ends so was run, whatever its text is
pub has_stopped : (known : Option (List ℕ)) (failure : StreamFailure) (first : ShowState) (status : ℕ)
    (old new : Option (List ℕ)) → status ≡ status_of (Stopped failure)
    → IfSome known (λ text. HasRun first text status old new)
has_stopped None failure first status old new ends = tt
has_stopped (Some text) failure first status old new ends = record { ending = Stopped failure; is = ends; wrote = tt }

-- a refusal of the store has the status 1 or 3
pub small_store : (fault : StoreFault) → (store_status fault ≤ 3) × (store_status fault ≢ 2)
small_store store.NotEmpty = (lit≤ tt, λ is. cc)
small_store store.Unformed = (lit≤ tt, λ is. cc)
small_store store.Damaged = (lit≤ tt, λ is. cc)
small_store store.Version = (lit≤ tt, λ is. cc)
small_store store.Malformed = (lit≤ tt, λ is. cc)
small_store store.Full = (lit≤ tt, λ is. cc)
small_store store.Exhausted = (lit≤ tt, λ is. cc)
small_store store.Memory = (lit≤ tt, λ is. cc)
small_store store.Disk = (lit≤ tt, λ is. cc)

small : (ending : Ending) → (status_of ending ≤ 3) × (status_of ending ≢ 2)
small Done = (lit≤ tt, λ is. cc)
small BadLine = (lit≤ tt, λ is. cc)
small BadInput = (lit≤ tt, λ is. cc)
small (Failed Broken) = (lit≤ tt, λ is. cc)
small (Failed (Store fault)) = small_store fault
small (Stopped failure) = (lit≤ tt, λ is. cc)

pub small_status : (ending : Ending) (status : ℕ) → status ≡ status_of ending → (status ≤ 3) × (status ≢ 2)
small_status ending status is =
    let P : ℕ → Type 0 = λ n. (n ≤ 3) × (n ≢ 2) in
    subst P (sym is) (small ending)
