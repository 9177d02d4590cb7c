-- Steps one after the other, as a loop takes them.
use Rattle.std.proofs.Common.{◌≡◌, ℕ, suc, ◌-◌, ◌+◌, ◌≤◌, ◌<◌, List, Option, Some, None, refl, sym, ◌∙◌, arith}
use Rattle.cue_records.specs.declared.fault.ReadFault.{ReadFault}
use Rattle.cue_records.specs.declared.fault.ReadFault.TheVariants as fault
use Rattle.cue_records.specs.Reading.{Reads, Fails}
use Rattle.cue_records.specs.StateReading.{fold_at}

pub fold_goes_on : {S : Type 0} (step : S → Reads S) (count i : ℕ) (s : S) (bytes : List ℕ) (t : S) (after : List ℕ)
    (total : Option (S × List ℕ)) → i < count → step s bytes ≡ Some (t, after)
    → fold_at step (count - i) s bytes ≡ total → fold_at step (count - (i + 1)) t after ≡ total
unfolding fold_at
fold_goes_on step count i s bytes t after total lt h so_far =
    let k : count - i ≡ suc (count - (i + 1)) = omega arith in
    let one : fold_at step (count - i) s bytes ≡ fold_at step (count - (i + 1)) t after = rw (k, h) refl in
    sym one ∙ so_far

pub fold_ends : {S : Type 0} (step : S → Reads S) (e : ReadFault) (count i : ℕ) (s : S) (bytes : List ℕ)
    (total : Option (S × List ℕ)) → i < count → Fails e (step s bytes)
    → fold_at step (count - i) s bytes ≡ total → Fails e total
unfolding fold_at
fold_ends step fault.Memory count i s bytes total lt h so_far = tt
fold_ends step fault.Malformed count i s bytes total lt h so_far =
    let k : count - i ≡ suc (count - (i + 1)) = omega arith in
    let one : fold_at step (count - i) s bytes ≡ None = rw (k, h) refl in
    sym so_far ∙ one

pub fold_done : {S : Type 0} (step : S → Reads S) (count i : ℕ) (s : S) (bytes : List ℕ) (total : Option (S × List ℕ))
    → count ≤ i → fold_at step (count - i) s bytes ≡ total → total ≡ Some (s, bytes)
unfolding fold_at
fold_done step count i s bytes total le so_far =
    let k : count - i ≡ 0 = omega arith in
    let one : fold_at step (count - i) s bytes ≡ Some (s, bytes) = rw k refl in
    sym so_far ∙ one
