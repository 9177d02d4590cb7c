-- What an answer over disks in memory says of the fault that it was made of.
use Rattle.std.proofs.Common.{◌≡◌, ◌≤◌, ◌+◌, ◌-◌, ◌++◌, ◌∙◌, ℕ, List, length, take, drop, min, sym, refl, ap}
use Rattle.std.proofs.Common.{arith, inl, inr, subst}
use Rattle.std.proofs.lemmas.List.{length-take, length-replicate, take-append-drop, take-take, drop-take}
use Rattle.std.proofs.lemmas.List.{drop-replicate, take_min}
use Rattle.std.specs.Prelude.{Option, Some, None, IfSome, replicate}
use Rattle.cue_keeper.specs.declared.fault.StoreFault.{StoreFault}
use Rattle.cue_keeper.specs.declared.fault.StoreFault.TheVariants as store
use Rattle.cue_snap.specs.Pair.{IsSpoiled, NeitherHas}
use Rattle.cue_keeper.specs.Refusals.{HasOtherVersion, StandsForNone}
use Rattle.cue_engine.specs.Recovery.{CannotBeRecovered}
use Rattle.cue_copies.specs.Copies.{CannotBeOpened, IsFront, IsOfMachine, fault_in_memory, filled}
use Rattle.cue_copies.specs.declared.copying.Copies.{Copies}

-- a part of the front is a front
pub front_of : (bytes whole : List ℕ) (n : ℕ) → bytes ≡ take n whole → IsFront bytes whole
front_of bytes whole n is =
    let long : length bytes ≡ min n (length whole) = ap length is ∙ length-take n whole in
    is ∙ sym (take_min n whole) ∙ ap (λ (k : ℕ). take k whole) (sym long)

-- a front of as many bytes as there are, up to a limit, is the front up to that limit
pub front_whole : (bytes whole : List ℕ) (limit : ℕ) → IsFront bytes whole → length bytes ≡ min (length whole) limit
    → bytes ≡ take limit whole
front_whole bytes whole limit front long =
    let other : length bytes ≡ min limit (length whole) = omega (arith, long) in
    front ∙ ap (λ (k : ℕ). take k whole) other ∙ take_min limit whole

-- a front that is as long as it can be
pub front_full : (bytes whole : List ℕ) (limit len : ℕ) → IsFront bytes whole → len ≡ min (length whole) limit
    → len ≤ length bytes → length bytes ≤ limit → bytes ≡ take limit whole
front_full bytes whole limit len front is full short =
    let within : length bytes ≡ min (length bytes) (length whole) = ap length front
    ∙ length-take (length bytes) whole in
    front_whole bytes whole limit front (omega (arith, is, within))

take_both : (n more : ℕ) (bytes : List ℕ) → take (n + more) bytes ≡ take n bytes ++ take more (drop n bytes)
take_both n more bytes =
    sym (take-append-drop n (take (n + more) bytes))
    ∙ (λ i. take-take n (n + more) bytes (omega arith) i ++ drop-take n more bytes i)

-- a front that was read on
pub front_on : (bytes next whole : List ℕ) (limit len : ℕ) → IsFront bytes whole → length bytes ≤ len
    → len ≡ min (length whole) limit →
    next ≡ bytes ++ take (len - length bytes) (drop (length bytes) whole) → length next ≡ len → next ≡ take limit whole
front_on bytes next whole limit len front longer is read long =
    let sum : length bytes + (len - length bytes) ≡ len = omega (arith, longer) in
    let more : next ≡ take len whole =
    read ∙ ap (λ (l : List ℕ). l ++ take (len - length bytes) (drop (length bytes) whole)) front
    ∙ sym (take_both (length bytes) (len - length bytes) whole) ∙ ap (λ (n : ℕ). take n whole) sum in
    front_whole next whole limit (front_of next whole len more) (long ∙ is)

-- what was read into so many zeros is the front
pub filled_up : (n len : ℕ) (read whole : List ℕ) → len ≡ min (length whole) n
    → read ≡ take (length (take len (replicate {A = ℕ} n 0))) whole
    → read ++ drop len (replicate {A = ℕ} n 0) ≡ filled n whole
unfolding filled
filled_up n len read whole is same =
    let all : length (replicate {A = ℕ} n 0) ≡ n = length-replicate n 0 in
    let least : min len (length (replicate {A = ℕ} n 0)) ≡ min n (length whole) = omega (arith, is, all) in
    let long : length (take len (replicate {A = ℕ} n 0)) ≡ min n (length whole) =
    length-take len (replicate n 0) ∙ least in
    let most : take (length (take len (replicate {A = ℕ} n 0))) whole ≡ take (min n (length whole)) whole =
    ap (λ (k : ℕ). take k whole) long in
    let taken : read ≡ take n whole = same ∙ most ∙ take_min n whole in
    let rest : n - len ≡ n - length whole = omega (arith, is) in
    let fewer : replicate {A = ℕ} (n - len) 0 ≡ replicate {A = ℕ} (n - length whole) 0 =
    ap (λ (k : ℕ). replicate {A = ℕ} k 0) rest in
    let zeros : drop len (replicate {A = ℕ} n 0) ≡ replicate {A = ℕ} (n - length whole) 0 =
    drop-replicate len n 0 ∙ fewer in
    λ i. taken i ++ zeros i

-- what is said of the copies is said of those that were taken
pub some_copies : (found : Option Copies) (copies : Copies) (F : Copies → Type 0)
    → IfSome found (λ taken. taken ≡ copies) → F copies → IfSome found F
some_copies None copies F same holds = tt
some_copies (Some taken) copies F same holds = subst F (sym same) holds

-- what is answered of an opening over disks in memory says why the two are not opened
pub opened_in_memory : (fault : StoreFault) (x y : List ℕ)
    → (fault ≡ store.NotEmpty → ⊥) × (fault ≡ store.Full → ⊥) × (fault ≡ store.Exhausted → ⊥)
    → (fault ≡ store.Unformed → NeitherHas x y) → (fault ≡ store.Damaged → IsSpoiled x y)
    → (fault ≡ store.Version → HasOtherVersion x y) → (fault ≡ store.Malformed → StandsForNone x y)
    → CannotBeOpened (fault_in_memory fault) x y
opened_in_memory store.NotEmpty x y never unformed damaged version malformed = never.0 refl
opened_in_memory store.Unformed x y never unformed damaged version malformed = unformed refl
opened_in_memory store.Damaged x y never unformed damaged version malformed = damaged refl
opened_in_memory store.Version x y never unformed damaged version malformed = version refl
opened_in_memory store.Malformed x y never unformed damaged version malformed = malformed refl
opened_in_memory store.Full x y never unformed damaged version malformed = never.1 refl
opened_in_memory store.Exhausted x y never unformed damaged version malformed = never.2 refl
opened_in_memory store.Memory x y never unformed damaged version malformed = tt
opened_in_memory store.Disk x y never unformed damaged version malformed = tt

-- a fault of the machine says nothing of why the two are not opened
pub unread : (fault : StoreFault) (x y : List ℕ) → IsOfMachine fault → CannotBeOpened fault x y
unread fault x y (inl same) = subst (λ (f : StoreFault). CannotBeOpened f x y) (sym same) tt
unread fault x y (inr same) = subst (λ (f : StoreFault). CannotBeOpened f x y) (sym same) tt

-- what is answered of a recovery over disks in memory says why the two cannot be recovered
pub refused_in_memory : (fault : StoreFault) (x y : List ℕ) → CannotBeRecovered fault x y
    → CannotBeRecovered (fault_in_memory fault) x y
refused_in_memory store.NotEmpty x y why = why
refused_in_memory store.Unformed x y why = why
refused_in_memory store.Damaged x y why = why
refused_in_memory store.Version x y why = why
refused_in_memory store.Malformed x y why = why
refused_in_memory store.Full x y why = why
refused_in_memory store.Exhausted x y why = why
refused_in_memory store.Memory x y why = tt
refused_in_memory store.Disk x y why = tt

-- a fault of the machine says nothing of the two
pub of_machine : (fault : StoreFault) (x y : List ℕ) → IsOfMachine fault → CannotBeRecovered fault x y
of_machine fault x y (inl same) = subst (λ (f : StoreFault). CannotBeRecovered f x y) (sym same) tt
of_machine fault x y (inr same) = subst (λ (f : StoreFault). CannotBeRecovered f x y) (sym same) tt
