-- Whatever happens to a store, whole batches are kept, and what was handed over rests on them.
use Rattle.std.proofs.Common.{◌≡◌, ◌⊎◌, inl, inr, ℕ, true, List, [], ◌∷◌, ◌++◌, refl, sym, ap, ◌∙◌, subst, append_assoc}
use Rattle.std.proofs.Common.{IsTrue}
use Rattle.cue_snap.specs.Pair.{NeitherHas}
use Rattle.cue_core.specs.declared.event.Event.{Event}
use Rattle.cue_core.specs.State.{ShowState, empty_state, is_state}
use Rattle.cue_core.specs.Steps.{after_events}
use Rattle.cue_core.proofs.rules.ApplyLemmas.{after_events-append}
use Rattle.cue_keeper.specs.Stands.{Stands}
use Rattle.cue_keeper.proofs.StandingLemmas.{one_state}
use Rattle.cue_keeper.proofs.RefusedLemmas.{is_opened}
use Rattle.cue_outbox.specs.Sending.{Send, all_pending, datagrams}
use Rattle.cue_core.specs.Batches.{closed_state}
use Rattle.cue_engine.specs.Runs.{joined_list}
use Rattle.cue_engine.specs.Incidents.{Incident, Store, running, at_rest, unformed, left_by, Happens, left_by_all}
use Rattle.cue_engine.specs.Headline.{handed_in, all_handed, batches_of, is_cut_off, AreKept, BeginsWith, MayRead}
use Rattle.cue_engine.specs.Headline.{HasState, CameTo, IsAnswered, WhateverHappens, RecoveryGivesAPrefix, owed_by}
use Rattle.cue_engine.proofs.GroupLemmas.{joined_append}
use Rattle.cue_engine.proofs.SentLemmas.{Each, each_more}
use Rattle.cue_engine.proofs.BytesLemmas.{all_say}
use Rattle.cue_engine.proofs.OrderBytesLemmas.{all_pending_in_bytes}
use Rattle.cue_outbox.proofs.ListLemmas.{each_append}
use Rattle.cue_engine.proofs.IncidentLemmas.{HasOn, IsOn, Goes, MayOn, handed_each, as_before, resting_at, unformed_at}
use Rattle.cue_engine.proofs.IncidentLemmas.{chosen, events_of, joined_batches, folded_batches}
use Rattle.cue_engine.proofs.DueLemmas.{IsDue, pending_due, due_lasts, all_decided}

-- ---- all of them

record Found (s : ShowState) (es : List Event) (store : Store) (is : List Incident) (x y : List ℕ) : Type 0 where
  kept : List (List Event)
  prefix : AreKept (after_events s es) is kept
  has : HasOn (left_by_all store is) x y (after_events s (es ++ joined_list kept))
  due : Each (IsDue s (es ++ joined_list kept)) (all_handed store is)

found_none : (s : ShowState) (es : List Event) (store : Store) (x y : List ℕ) → IsOn s es store x y
    → Found s es store [] x y
found_none s es store x y on =
    record { kept = []; prefix = refl; has = (as_before on).has; due = tt }

-- what is handed over in one incident, and then in the others
due_then : (s : ShowState) (es fs : List Event) (store : Store) (i : Incident) (is : List Incident)
    → Each (IsDue s es) (owed_by store) → Each (IsDue s (es ++ fs)) (all_handed (left_by store i) is)
    → Each (IsDue s (es ++ fs)) (all_handed store (i ∷ is))
due_then s es fs store i is owed others =
    each_append (λ (m : ℕ × Send). IsDue s (es ++ fs) m.1) (handed_in store i) (all_handed (left_by store i) is)
    (each_more due_lasts s es fs (handed_in store i) (handed_each (IsDue s es) store i owed)) others

found_whole : (s : ShowState) (es : List Event) (store : Store) (i : Incident) (is : List Incident)
    (x y first second : List ℕ) → IsOn s es store first second
    → Found s (es ++ events_of (after_events s es) i) (left_by store i) is x y → Found s es store (i ∷ is) x y
found_whole s es store i is x y first second on f =
    let before : ShowState = after_events s es in
    let batches : List (List Event) = batches_of before i in
    let batch : List Event = events_of before i in
    let joined : batch ++ joined_list f.kept ≡ joined_list (batches ++ f.kept) =
    ap (λ (xs : List Event). xs ++ joined_list f.kept) (sym (joined_batches before i))
    ∙ sym (joined_append batches f.kept) in
    let same : (es ++ batch) ++ joined_list f.kept ≡ es ++ joined_list (batches ++ f.kept) =
    append_assoc es batch (joined_list f.kept) ∙ ap (λ (xs : List Event). es ++ xs) joined in
    record {
      kept = batches ++ f.kept;
      prefix = inl (f.kept, (refl, rw (folded_batches before i, ← after_events-append s es batch) f.prefix));
      has = rw (← same) f.has;
      due = due_then s es (joined_list (batches ++ f.kept)) store i is on.owed (rw (← same) f.due);
    }

found_cut : (s : ShowState) (es : List Event) (store : Store) (i : Incident) (is : List Incident)
    (x y first second : List ℕ) → IsOn s es store first second → is_cut_off i ≡ true
    → Found s es (left_by store i) is x y → Found s es store (i ∷ is) x y
found_cut s es store i is x y first second on cut f = record {
  kept = f.kept;
  prefix = inr (cut, f.prefix);
  has = f.has;
  due = due_then s es (joined_list f.kept) store i is on.owed f.due;
}

found_either : (s : ShowState) (es : List Event) (store : Store) (i : Incident) (is : List Incident)
    (x y first second u v : List ℕ) → IsOn s es store first second
    → (IsOn s (es ++ events_of (after_events s es) i) (left_by store i) u v
    → Found s (es ++ events_of (after_events s es) i) (left_by store i) is x y)
    → (IsOn s es (left_by store i) u v → Found s es (left_by store i) is x y)
    → Goes s es store i u v → Found s es store (i ∷ is) x y
found_either s es store i is x y first second u v on whole cut (inl h) =
    found_whole s es store i is x y first second on (whole h)
found_either s es store i is x y first second u v on whole cut (inr h) =
    found_cut s es store i is x y first second on h.0 (cut h.1)

-- what the store is read as before all of them, where it is read as x and y after them
record ChosenFirst (store : Store) (is : List Incident) (x y : List ℕ) : Type 0 where
  first : List ℕ
  second : List ℕ
  may : MayOn store first second
  finds : (s : ShowState) (es : List Event) → IsOn s es store first second → Found s es store is x y

found : (store : Store) (is : List Incident) (x y : List ℕ) → Happens store is → MayOn (left_by_all store is) x y
    → ChosenFirst store is x y
found store [] x y ok may = record { first = x; second = y; may = may; finds = λ s es on. found_none s es store x y on }
found store (i ∷ is) x y ok may =
    let later = found (left_by store i) is x y ok.1 may in
    let now = chosen store i later.first later.second ok.0 later.may in
    record {
      first = now.first;
      second = now.second;
      may = now.may;
      finds = λ s es on.
          found_either s es store i is x y now.first now.second later.first later.second on
          (λ h. later.finds s (es ++ events_of (after_events s es) i) h)
          (λ h. later.finds s es h)
          (now.goes s es on);
    }

-- ---- from the first on

starts : (s : ShowState) (store : Store) (x y : List ℕ) → IsTrue (is_state s) → BeginsWith store s → MayOn store x y
    → IsOn s [] store x y
starts s (running t owed) x y h begins may =
    let P : List (ℕ × Send) → Type 0 = λ ms. IsOn s [] (running t ms) x y in
    subst P (sym begins.1) (record {
      has = begins.0;
      owed = pending_due s [] h;
      rules = h;
    })
starts s (at_rest one other) x y h begins may = resting_at h (begins x y may.0 may.1)
starts s (unformed one other) x y h begins may =
    unformed_at h begins.1 (λ u v left_u left_v. inl (begins.0 u v left_u left_v))

reads_on : (store : Store) (x y : List ℕ) → MayRead store x y → MayOn store x y
reads_on (running t owed) x y may = tt
reads_on (at_rest one other) x y may = may
reads_on (unformed one other) x y may = tt

-- without an area, or with the first state
first_or : (s : ShowState) (x y : List ℕ) → s ≡ empty_state → NeitherHas x y ⊎ Stands x y empty_state
    → NeitherHas x y ⊎ Stands x y s
first_or s x y same h = let P : ShowState → Type 0 = λ u. NeitherHas x y ⊎ Stands x y u in subst P (sym same) h

has_state : (store : Store) (x y : List ℕ) (s : ShowState) → MayRead store x y → HasOn store x y s
    → HasState store x y s
has_state (running t owed) x y s may has = has
has_state (at_rest one other) x y s may has = has
has_state (unformed one other) x y s may has = (has.0, first_or s x y has.0 (has.1 x y may.0 may.1))

pub whatever_happens : WhateverHappens
whatever_happens s store is x y h begins ok may =
    let all = found store is x y ok (reads_on (left_by_all store is) x y may) in
    let f = all.finds s [] (starts s store all.first all.second h begins all.may) in
    record {
      kept = f.kept;
      prefix = f.prefix;
      has = has_state (left_by_all store is) x y (after_events s (joined_list f.kept)) may f.has;
      decided = all_decided s (joined_list f.kept) (all_handed store is) f.due;
      in_bytes = all_say s (joined_list f.kept) (all_handed store is) f.due;
      was_pending = all_pending_in_bytes s (joined_list f.kept) (all_handed store is) f.due;
    }

-- recovery closes the state that the two stand for
gives : (x y : List ℕ) (s t : ShowState) (queue : List (ℕ × List ℕ)) → Stands x y s → IsAnswered x y t queue
    → t ≡ closed_state s
gives x y s t queue stands answered = answered.stood.is
    ∙ ap closed_state (one_state x y answered.stood.before s answered.stood.stood stands)

pub recovery_gives_a_prefix : RecoveryGivesAPrefix
recovery_gives_a_prefix s store is one other x y h begins ok end left =
    let P : Store → Type 0 = λ last. MayRead last x y in
    let Q : Store → ShowState → Type 0 = λ last u. HasState last x y u in
    let came : CameTo s store is x y = whatever_happens s store is x y h begins ok (subst P (sym end) left) in
    let last : ShowState = after_events s (joined_list came.kept) in
    let stands : Stands x y last = subst (λ (store : Store). Q store last) end came.has in
    let opened = is_opened x y last stands in
    record {
      kept = came.kept;
      prefix = came.prefix;
      readable = record { formed = opened.0; whole = opened.1; known = opened.2; well_formed = opened.3 };
      gives = λ t queue answered. gives x y last t queue stands answered;
      owes = λ t queue answered. answered.owed
          ∙ ap (λ (u : ShowState). datagrams (all_pending u)) (gives x y last t queue stands answered);
      decided = came.decided;
      in_bytes = came.in_bytes;
    }
