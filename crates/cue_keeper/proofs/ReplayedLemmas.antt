-- What reading finds, payload after payload, as a loop takes them.
use Rattle.std.proofs.Common.{◌≡◌, ℕ, false, List, Option, None, Some, Result, Ok, Err, IsTrue, OnOk}
use Rattle.std.proofs.Common.{refl, sym, ◌∙◌, ap}
use Rattle.cue_core.specs.declared.event.Event.{Event}
use Rattle.cue_core.specs.State.{ShowState, is_state}
use Rattle.cue_core.specs.Steps.{are_acceptable, after_events}
use Rattle.cue_records.specs.Batch.{is_batch, batch_text, IsNoBatch}
use Rattle.cue_records.specs.Reading.{◌>>=◌, where_it}
use Rattle.cue_records.specs.State.{IsStateText, IsNoState}
use Rattle.cue_keeper.specs.Reading.{batch_in, base_in, state_after_payload, state_after, state_read}
use Rattle.cue_keeper.proofs.StandingLemmas.{where_true, batch_again, base_again, batch_takes, base_takes}

pub on_ok : {T E A B : Type 0} (r : Result T E) → (A → B) → OnOk r A → OnOk r B
on_ok (Ok x) from has = from has
on_ok (Err e) from has = has

-- ---- one payload

-- the batch whose text it is
is_in : (payload : List ℕ) (batch : List Event) → IsTrue (is_batch batch) × (payload ≡ batch_text batch)
    → batch_in payload ≡ Some batch
is_in payload batch is = ap batch_in is.1 ∙ batch_again batch is.0

pub behind_one : (s t : ShowState) (payload : List ℕ) (batch : List Event) → IsTrue (is_batch batch)
    × (payload ≡ batch_text batch) → IsTrue (are_acceptable s batch) × (t ≡ after_events s batch)
    → state_after_payload s payload ≡ Some t
behind_one s t payload batch is may =
    rw (is_in payload batch is) (where_true (are_acceptable s batch) (after_events s batch) may.0 ∙ ap Some (sym may.1))

pub behind_refused : (s : ShowState) (payload : List ℕ) (batch : List Event) → IsTrue (is_batch batch)
    × (payload ≡ batch_text batch) → are_acceptable s batch ≡ false → state_after_payload s payload ≡ None
behind_refused s payload batch is may = rw (is_in payload batch is, may) refl

-- where nothing is found nothing comes of it
bind_none : {A B : Type 0} (found : Option A) (next : A → Option B) → ((x : A) → found ≡ Some x → ⊥)
    → (found >>= next) ≡ None
bind_none None next none = refl
bind_none (Some x) next none = absurd (none x refl)

pub behind_no_batch : (s : ShowState) (payload : List ℕ) → IsNoBatch payload → state_after_payload s payload ≡ None
behind_no_batch s payload none =
    bind_none (batch_in payload) (λ batch. where_it (are_acceptable s batch) (after_events s batch))
    (λ batch e. let is = batch_takes payload batch e in none batch is.0 is.1)

-- ---- a snapshot and payloads

pub read_on : (snapshot : List ℕ) (payloads : List (List ℕ)) (base : ShowState)
    → IsTrue (is_state base) × IsStateText snapshot base → state_read snapshot payloads ≡ state_after base payloads
unfolding state_read
read_on snapshot payloads base is =
    let found : base_in snapshot ≡ Some base = base_again snapshot base is.0 is.1 in
    rw found refl

pub read_none : (snapshot : List ℕ) (payloads : List (List ℕ)) → IsNoState snapshot
    → state_read snapshot payloads ≡ None
unfolding state_read
read_none snapshot payloads none = bind_none (base_in snapshot) (λ base. state_after base payloads)
    (λ base e. let is = base_takes snapshot base e in none base is.0 is.1)
