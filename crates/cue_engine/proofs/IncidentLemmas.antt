-- What one incident makes of a store.
--
-- What the disks are read as is chosen from the last incident back to the first: what a stop leaves is then one pair of
-- byte lists, and the batch of a call that was cut off is there or not.
use Rattle.std.proofs.Common.{◌≡◌, ◌⊎◌, inl, inr, ℕ, zero, suc, true, List, [], ◌∷◌, ◌++◌, take, drop, refl, sym, ap}
use Rattle.std.proofs.Common.{◌∙◌, subst, append-nil, IsTrue}
use Rattle.std.specs.List.{AllByRecursion}
use Rattle.cue_disk.specs.Disk.{Contents}
use Rattle.cue_snap.specs.Pair.{NeitherHas, IsUnformedOr}
use Rattle.cue_core.specs.declared.event.Event.{Event}
use Rattle.cue_core.specs.State.{ShowState, empty_state, is_state}
use Rattle.cue_core.specs.Steps.{after_events, are_acceptable}
use Rattle.cue_core.proofs.rules.ApplyLemmas.{after_events-append}
use Rattle.cue_keeper.specs.Stands.{Stands, StandsEither, first_area, folded_all}
use Rattle.cue_keeper.proofs.StandingLemmas.{one_state, fresh_stands}
use Rattle.cue_records.specs.State.{state_text}
use Rattle.cue_keeper.proofs.RefusedLemmas.{is_opened}
use Rattle.cue_outbox.specs.Sending.{Send}
use Rattle.cue_engine.specs.Given.{Input, given_recovery}
use Rattle.cue_engine.specs.Groups.{batches_given, sends_given, all_took}
use Rattle.cue_core.specs.Batches.{closed_state}
use Rattle.cue_engine.specs.Recovery.{ClosedFrom, IsLeftOrStands}
use Rattle.cue_engine.specs.Runs.{joined_list, run}
use Rattle.cue_engine.specs.Runs as runs
use Rattle.cue_engine.specs.Incidents.{Incident, formed, stopped_in_form, committed, handed_out, handed_some, stopped}
use Rattle.cue_engine.specs.Incidents.{stopped_in_commit, recovered, stopped_in_recovery, refused, Store, running}
use Rattle.cue_engine.specs.Incidents.{at_rest, unformed, begun, LeavesOnly, AreLeft, PermitsRunning, PermitsAtRest}
use Rattle.cue_engine.specs.Incidents.{PermitsUnformed, Permits, left_by}
use Rattle.cue_engine.specs.Headline.{owed_by, handed_in, batches_of, is_cut_off}
use Rattle.cue_engine.proofs.HistoryLemmas.{happening-ok}
use Rattle.cue_engine.proofs.GroupLemmas.{after_joined, joined_some, joined_one, inputs-ok, is_a_run}
use Rattle.cue_core.proofs.rules.BatchLemmas.{is_state-after_events}
use Rattle.cue_engine.proofs.SentLemmas.{Each, each_more, each_earlier, run-each}
use Rattle.cue_outbox.proofs.ListLemmas.{each_append}
use Rattle.cue_engine.proofs.DueLemmas.{IsDue, pending_due, due_lasts}

-- nothing was formed: whatever a crash leaves has no area, or stands for the first state
abbrev pub LeavesFirst : Contents → Contents → Type 0
LeavesFirst one other = LeavesOnly one other (λ x y. NeitherHas x y ⊎ Stands x y empty_state)

-- as `HasState`, with all that a crash may leave of a store that was not formed
abbrev pub HasOn : Store → List ℕ → List ℕ → ShowState → Type 0
HasOn (running t owed) x y s = t ≡ s
HasOn (at_rest one other) x y s = Stands x y s
HasOn (unformed one other) x y s = (s ≡ empty_state) × LeavesFirst one other

-- what the store has after these events, and that what is owed is due by them
pub record IsOn (s : ShowState) (es : List Event) (store : Store) (x y : List ℕ) : Type 0 where
  pub has : HasOn store x y (after_events s es)
  pub owed : Each (IsDue s es) (owed_by store)
  pub rules : IsTrue (is_state (after_events s es))

-- ---- what is handed over was owed

each_taken : {A : Type 0} (P : A → Type 0) (n : ℕ) (xs : List A) → AllByRecursion P xs → AllByRecursion P (take n xs)
each_taken P zero xs h = tt
each_taken P (suc n) [] h = tt
each_taken P (suc n) (x ∷ xs) h = (h.0, each_taken P n xs h.1)

each_dropped : {A : Type 0} (P : A → Type 0) (n : ℕ) (xs : List A) → AllByRecursion P xs → AllByRecursion P (drop n xs)
each_dropped P zero xs h = h
each_dropped P (suc n) [] h = tt
each_dropped P (suc n) (x ∷ xs) h = each_dropped P n xs h.1

pub handed_each : (R : Send → Type 0) (store : Store) (i : Incident) → Each R (owed_by store)
    → Each R (handed_in store i)
handed_each R store handed_out h = h
handed_each R store (handed_some n) h = each_taken (λ (m : ℕ × Send). R m.1) n (owed_by store) h
handed_each R store (stopped n one other) h = each_taken (λ (m : ℕ × Send). R m.1) n (owed_by store) h
handed_each R store (stopped_in_commit inputs n one other) h =
    each_taken (λ (m : ℕ × Send). R m.1) n (owed_by store) h
handed_each R store _ h = tt

-- the rules of a state hold after an acceptable batch
rules_after : (s : ShowState) (es batch : List Event) → IsTrue (is_state (after_events s es))
    → IsTrue (are_acceptable (after_events s es) batch) → IsTrue (is_state (after_events s (es ++ batch)))
rules_after s es batch h ok = let P : ShowState → Type 0 = λ t. IsTrue (is_state t) in
    subst P (sym (after_events-append s es batch)) (is_state-after_events (after_events s es) batch h ok)

-- ---- one incident

-- all events of the batches that it brings
abbrev pub events_of : ShowState → Incident → List Event
events_of s (committed inputs) = joined_list (batches_given s inputs)
events_of s (stopped_in_commit inputs n one other) = joined_list (batches_given s inputs)
events_of s (recovered t) = (given_recovery s).batch
events_of s (stopped_in_recovery one other) = (given_recovery s).batch
events_of s _ = []

pub joined_batches : (s : ShowState) (i : Incident) → joined_list (batches_of s i) ≡ events_of s i
joined_batches s (committed inputs) = joined_some (batches_given s inputs)
joined_batches s (stopped_in_commit inputs n one other) = joined_some (batches_given s inputs)
joined_batches s (recovered t) = joined_one (given_recovery s).batch
joined_batches s (stopped_in_recovery one other) = joined_one (given_recovery s).batch
joined_batches s _ = refl

-- they make the same state
pub folded_batches : (s : ShowState) (i : Incident) → folded_all s (batches_of s i) ≡ after_events s (events_of s i)
folded_batches s i = sym (after_joined s (batches_of s i)) ∙ ap (after_events s) (joined_batches s i)

-- the batches are kept whole, or, where their call was cut off, not at all
abbrev pub Goes : ShowState → List Event → Store → Incident → List ℕ → List ℕ → Type 0
Goes s es store i x y = IsOn s (es ++ events_of (after_events s es) i) (left_by store i) x y
    ⊎ ((is_cut_off i ≡ true) × IsOn s es (left_by store i) x y)

-- what was chosen is among what the disks may read as; before a store is formed there is nothing to choose
abbrev pub MayOn : Store → List ℕ → List ℕ → Type 0
MayOn (running s owed) x y = Unit {0}
MayOn (at_rest one other) x y = AreLeft one other x y
MayOn (unformed one other) x y = Unit {0}

-- what the store before the incident is read as, where the store after it is read as x and y
pub record Chosen (store : Store) (i : Incident) (x y : List ℕ) : Type 0 where
  pub first : List ℕ
  pub second : List ℕ
  pub may : MayOn store first second
  pub goes : (s : ShowState) (es : List Event) → IsOn s es store first second → Goes s es store i x y

-- nothing is added
pub as_before : {s : ShowState} {es : List Event} {store : Store} {x y : List ℕ} → IsOn s es store x y
    → IsOn s (es ++ []) store x y
as_before {es = es} on = rw (append-nil es) on

pub resting_at : {s : ShowState} {es : List Event} {one other : Contents} {x y : List ℕ}
    → IsTrue (is_state (after_events s es)) → Stands x y (after_events s es) → IsOn s es (at_rest one other) x y
resting_at rules h = record { has = h; owed = tt; rules = rules }

-- a stop leaves the state from before or the one after the batch
resting_either : (s : ShowState) (es batch : List Event) (one other : Contents) (x y : List ℕ)
    → IsTrue (is_state (after_events s es)) → IsTrue (are_acceptable (after_events s es) batch)
    → StandsEither (after_events s es) (after_events (after_events s es) batch) x y
    → IsOn s (es ++ batch) (at_rest one other) x y ⊎ IsOn s es (at_rest one other) x y
resting_either s es batch one other x y rules ok (inl h) = inr (resting_at rules h)
resting_either s es batch one other x y rules ok (inr h) =
    inl (resting_at (rules_after s es batch rules ok) (rw (after_events-append s es batch) h))

with_cut : {A B : Type 0} → A ⊎ B → A ⊎ ((true ≡ true) × B)
with_cut (inl a) = inl a
with_cut (inr b) = inr (refl, b)

-- an engine that begins after a batch owes what is pending then
begins : (s : ShowState) (es batch : List Event) (t : ShowState) (x y : List ℕ)
    → IsTrue (is_state (after_events s es)) → IsTrue (are_acceptable (after_events s es) batch)
    → t ≡ after_events (after_events s es) batch → IsOn s (es ++ batch) (begun t) x y
begins s es batch t x y rules ok same =
    let last : t ≡ after_events s (es ++ batch) = same ∙ sym (after_events-append s es batch) in
    let P : ShowState → Type 0 = λ u. IsOn s (es ++ batch) (begun u) x y in
    let now = rules_after s es batch rules ok in
    subst P (sym last) (record { has = refl; owed = pending_due s (es ++ batch) now; rules = now })

-- ---- while an engine runs

-- what is sent for inputs is due by their batches
inputs_due : (s : ShowState) (inputs : List (ℕ × Input)) → IsTrue (is_state s)
    → Each (IsDue s (joined_list (batches_given s inputs))) (sends_given s inputs)
inputs_due s inputs rules =
    let a_run = is_a_run s inputs in
    subst (λ (ms : List (ℕ × Send)). Each (IsDue s (joined_list (batches_given s inputs))) ms) a_run.2
    (subst (λ (es : List Event). Each (IsDue s es) (run s (all_took inputs)).sends)
    (ap joined_list a_run.1 ∙ joined_some (batches_given s inputs)) (run-each due_lasts s (all_took inputs) rules))

goes_committed : (s : ShowState) (es : List Event) (owed : List (ℕ × Send)) (inputs : List (ℕ × Input)) (x y : List ℕ)
    → IsOn s es (running (after_events s es) owed) [] []
    → Goes s es (running (after_events s es) owed) (committed inputs) x y
goes_committed s es owed inputs x y on =
    let before : ShowState = after_events s es in
    let batch : List Event = joined_list (batches_given before inputs) in
    let sends : List (ℕ × Send) = sends_given before inputs in
    inl (record {
      has = sym (after_joined before (batches_given before inputs)) ∙ sym (after_events-append s es batch);
      owed = each_append (λ (m : ℕ × Send). IsDue s (es ++ batch) m.1) owed sends
          (each_more due_lasts s es batch owed on.owed)
          (each_earlier due_lasts s es batch sends (inputs_due before inputs on.rules));
      rules = rules_after s es batch on.rules (inputs-ok before inputs on.rules);
    })

goes_running : (s : ShowState) (es : List Event) (owed : List (ℕ × Send)) (i : Incident) (x y : List ℕ)
    → IsOn s es (running (after_events s es) owed) [] [] → PermitsRunning (after_events s es) i
    → MayOn (left_by (running (after_events s es) owed) i) x y
    → Goes s es (running (after_events s es) owed) i x y
goes_running s es owed (committed inputs) x y on ok may = goes_committed s es owed inputs x y on
goes_running s es owed handed_out x y on ok may =
    inl (as_before (record { has = refl; owed = tt; rules = on.rules }))
goes_running s es owed (handed_some n) x y on ok may =
    inl (as_before (record {
      has = refl;
      owed = each_dropped (λ (m : ℕ × Send). IsDue s es m.1) n owed on.owed;
      rules = on.rules;
    }))
goes_running s es owed (stopped n one other) x y on ok may =
    inl (as_before (resting_at on.rules (ok x y may.0 may.1)))
goes_running s es owed (stopped_in_commit inputs n one other) x y on ok may =
    let before : ShowState = after_events s es in
    let P : ShowState → Type 0 = λ t. StandsEither before t x y in
    with_cut (resting_either s es (joined_list (batches_given before inputs)) one other x y on.rules
    (inputs-ok before inputs on.rules) (subst P (sym (after_joined before (batches_given before inputs)))
    (ok x y may.0 may.1)))
goes_running s es owed _ x y on ok may = absurd ok

-- an engine runs with the state that the store has
goes_on : (s : ShowState) (es : List Event) (t : ShowState) (owed : List (ℕ × Send)) (i : Incident) (x y : List ℕ)
    → t ≡ after_events s es → IsOn s es (running (after_events s es) owed) [] []
    → PermitsRunning t i → MayOn (left_by (running t owed) i) x y → Goes s es (running t owed) i x y
goes_on s es t owed i x y same on ok may =
    let P : ShowState → Type 0 = λ u. PermitsRunning u i → MayOn (left_by (running u owed) i) x y
    → Goes s es (running u owed) i x y in
    subst P (sym same) (goes_running s es owed i x y on) ok may

chosen_running : (t : ShowState) (owed : List (ℕ × Send)) (i : Incident) (x y : List ℕ) → PermitsRunning t i
    → MayOn (left_by (running t owed) i) x y → Chosen (running t owed) i x y
chosen_running t owed i x y ok may = record {
  first = [];
  second = [];
  may = tt;
  goes = λ s es on. goes_on s es t owed i x y on.has (record { has = refl; owed = on.owed; rules = on.rules }) ok may;
}

-- ---- while none runs

-- recovery closes the state, and owes what is pending in it
begins_again : (s : ShowState) (es : List Event) (t : ShowState) (x y : List ℕ) → IsTrue (is_state (after_events s es))
    → t ≡ closed_state (after_events s es) → IsOn s (es ++ (given_recovery (after_events s es)).batch) (begun t) x y
unfolding closed_state
begins_again s es t x y rules same = begins s es (given_recovery (after_events s es)).batch t x y rules
    (happening-ok (after_events s es) runs.recovered rules) same

recovers : (s : ShowState) (es : List Event) (t : ShowState) (x y first second : List ℕ)
    → IsTrue (is_state (after_events s es)) → ClosedFrom first second t → Stands first second (after_events s es)
    → IsOn s (es ++ (given_recovery (after_events s es)).batch) (begun t) x y
recovers s es t x y first second rules from stood =
    begins_again s es t x y rules (from.is
    ∙ ap closed_state (one_state first second from.before (after_events s es) from.stood stood))

-- what stands for a state, closed or not
stands_closing : (s : ShowState) (es : List Event) (one other : Contents) (x y : List ℕ)
    → IsTrue (is_state (after_events s es)) → StandsEither (after_events s es) (closed_state (after_events s es)) x y
    → IsOn s (es ++ (given_recovery (after_events s es)).batch) (at_rest one other) x y
    ⊎ IsOn s es (at_rest one other) x y
unfolding closed_state
stands_closing s es one other x y rules h = resting_either s es (given_recovery (after_events s es)).batch one other x y
    rules (happening-ok (after_events s es) runs.recovered rules) h

chosen_stopped : (then_one then_other one other : Contents) (x y : List ℕ) → IsLeftOrStands then_one then_other x y
    → Chosen (at_rest then_one then_other) (stopped_in_recovery one other) x y
chosen_stopped then_one then_other one other x y (inl left) = record {
  first = x;
  second = y;
  may = left;
  goes = λ s es on. inr (refl, resting_at on.rules on.has);
}
chosen_stopped then_one then_other one other x y (inr since) = record {
  first = since.first;
  second = since.second;
  may = (since.left_first, since.left_second);
  goes = λ s es on.
      let P : ShowState → Type 0 = λ t. StandsEither t (closed_state t) x y in
      with_cut (stands_closing s es one other x y on.rules
      (subst P (one_state since.first since.second since.before (after_events s es) since.stood on.has)
      since.stands));
}

chosen_at_rest : (then_one then_other : Contents) (i : Incident) (x y : List ℕ) → PermitsAtRest then_one then_other i
    → MayOn (left_by (at_rest then_one then_other) i) x y → Chosen (at_rest then_one then_other) i x y
chosen_at_rest then_one then_other (recovered t) x y ok may = record {
  first = ok.first;
  second = ok.second;
  may = ok.left;
  goes = λ s es on. inl (recovers s es t x y ok.first ok.second on.rules ok.closed on.has);
}
chosen_at_rest then_one then_other (stopped_in_recovery one other) x y ok may =
    chosen_stopped then_one then_other one other x y (ok x y may.0 may.1)
chosen_at_rest then_one then_other (refused one other) x y ok may = record {
  first = x;
  second = y;
  may = ok x y may.0 may.1;
  goes = λ s es on. inl (as_before (resting_at on.rules on.has));
}
chosen_at_rest then_one then_other _ x y ok may = absurd ok

-- ---- while none has come to be

-- what stands has an area
stands_first : (x y : List ℕ) (t : ShowState) → NeitherHas x y ⊎ Stands x y empty_state → Stands x y t → t ≡ empty_state
stands_first x y t (inl none) h = absurd ((is_opened x y t h).0 none)
stands_first x y t (inr stands) h = one_state x y t empty_state h stands

closed_first : closed_state empty_state ≡ empty_state
unfolding closed_state
closed_first = refl

either_first : (t : ShowState) (x y : List ℕ) → t ≡ empty_state → StandsEither t (closed_state t) x y
    → Stands x y empty_state
either_first t x y same (inl h) = let P : ShowState → Type 0 = λ u. Stands x y u in subst P same h
either_first t x y same (inr h) = let P : ShowState → Type 0 = λ u. Stands x y u in
    subst P (ap closed_state same ∙ closed_first) h

still_first : (then_one then_other : Contents) → LeavesFirst then_one then_other → (x y : List ℕ)
    → IsUnformedOr first_area then_one then_other x y → NeitherHas x y ⊎ Stands x y empty_state
still_first then_one then_other first x y (inl left) = first x y left.0 left.1
still_first then_one then_other first x y (inr (inl none)) = inl none
still_first then_one then_other first x y (inr (inr reads)) =
    inr (record {
      area = first_area;
      reads = reads;
      stands =
          fresh_stands 1 empty_state (state_text empty_state) refl refl;
    })

recovers_first : (then_one then_other : Contents) → LeavesFirst then_one then_other → (x y : List ℕ)
    → IsLeftOrStands then_one then_other x y → NeitherHas x y ⊎ Stands x y empty_state
recovers_first then_one then_other first x y (inl left) = first x y left.0 left.1
recovers_first then_one then_other first x y (inr since) =
    inr (either_first since.before x y
    (stands_first since.first since.second since.before
    (first since.first since.second since.left_first since.left_second) since.stood) since.stands)

pub unformed_at : {s : ShowState} {es : List Event} {one other : Contents} {x y : List ℕ}
    → IsTrue (is_state (after_events s es)) → after_events s es ≡ empty_state → LeavesFirst one other
    → IsOn s es (unformed one other) x y
unformed_at rules same first = record { has = (same, first); owed = tt; rules = rules }

goes_unformed : (s : ShowState) (es : List Event) (then_one then_other : Contents) (i : Incident) (x y : List ℕ)
    → IsTrue (is_state (after_events s es)) → after_events s es ≡ empty_state → LeavesFirst then_one then_other
    → PermitsUnformed then_one then_other i
    → Goes s es (unformed then_one then_other) i x y
goes_unformed s es then_one then_other formed x y rules same first ok =
    inl (begins s es [] empty_state x y rules refl (sym same))
goes_unformed s es then_one then_other (stopped_in_form one other) x y rules same first ok =
    inl (as_before (unformed_at rules same
    (λ u v left_u left_v. still_first then_one then_other first u v (ok u v left_u left_v))))
goes_unformed s es then_one then_other (recovered t) x y rules same first ok =
    let stood : ok.closed.before ≡ empty_state =
    stands_first ok.first ok.second ok.closed.before (first ok.first ok.second ok.left.0 ok.left.1)
    ok.closed.stood in
    inl (begins_again s es t x y rules (ok.closed.is ∙ ap closed_state (stood ∙ sym same)))
goes_unformed s es then_one then_other (stopped_in_recovery one other) x y rules same first ok =
    inr (
      refl,
      unformed_at rules same
          (λ u v left_u left_v. recovers_first then_one then_other first u v (ok u v left_u left_v)),
    )
goes_unformed s es then_one then_other (refused one other) x y rules same first ok =
    inl (as_before (unformed_at rules same (λ u v left_u left_v.
    let left = ok u v left_u left_v in
    first u v left.0 left.1)))
goes_unformed s es then_one then_other _ x y rules same first ok = absurd ok

chosen_unformed : (then_one then_other : Contents) (i : Incident) (x y : List ℕ) → PermitsUnformed then_one then_other i
    → Chosen (unformed then_one then_other) i x y
chosen_unformed then_one then_other i x y ok = record {
  first = [];
  second = [];
  may = tt;
  goes = λ s es on. goes_unformed s es then_one then_other i x y on.rules on.has.0 on.has.1 ok;
}

pub chosen : (store : Store) (i : Incident) (x y : List ℕ) → Permits store i → MayOn (left_by store i) x y
    → Chosen store i x y
chosen (running t owed) i x y ok may = chosen_running t owed i x y ok may
chosen (at_rest one other) i x y ok may = chosen_at_rest one other i x y ok may
chosen (unformed one other) i x y ok may = chosen_unformed one other i x y ok
