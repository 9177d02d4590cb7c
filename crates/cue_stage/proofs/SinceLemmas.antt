-- What came of a stage since an engine ran with a state.
use Rattle.std.proofs.Common.{◌≡◌, ℕ, List, [], ◌∷◌, ◌++◌, refl, sym, ap, ◌∙◌, subst, append_assoc, append-nil, IsTrue}
use Rattle.cue_core.specs.declared.event.Event.{Event}
use Rattle.cue_core.specs.State.{ShowState, empty_state, is_state}
use Rattle.cue_core.specs.Steps.{after_events, are_acceptable}
use Rattle.cue_core.proofs.rules.ApplyLemmas.{after_events-append}
use Rattle.cue_core.proofs.rules.BatchLemmas.{acceptable-append, is_state-after_events}
use Rattle.cue_keeper.specs.Stands.{folded_all}
use Rattle.cue_keeper.proofs.StandingLemmas.{one_state}
use Rattle.cue_outbox.specs.Sending.{Send, all_pending}
use Rattle.cue_engine.specs.Given.{Input}
use Rattle.cue_engine.specs.Groups.{batches_given}
use Rattle.cue_engine.specs.Headline.{AreKept, CameTo, HasState, MayRead}
use Rattle.cue_engine.specs.Incidents.{Incident, formed, stopped_in_form, committed, handed_out, handed_some, stopped}
use Rattle.cue_engine.specs.Incidents.{stopped_in_commit, recovered, stopped_in_recovery, refused, Store, running}
use Rattle.cue_engine.specs.Incidents.{at_rest, unformed, Permits, PermitsAtRest, PermitsRunning, PermitsUnformed}
use Rattle.cue_engine.specs.Incidents.{left_by, left_by_all, still_at_rest}
use Rattle.cue_engine.specs.Incidents as engine
use Rattle.cue_engine.specs.Runs.{given_at, joined_list, run}
use Rattle.cue_engine.specs.Runs as runs
use Rattle.cue_engine.proofs.GroupLemmas.{after_joined, inputs-ok}
use Rattle.cue_engine.proofs.HistoryLemmas.{happening-ok}
use Rattle.cue_engine.proofs.KeptLemmas.{kept_is_a_run}
use Rattle.cue_engine.proofs.PromisedLemmas.{whatever_happens}
use Rattle.cue_engine.proofs.SentLemmas.{joined-with}
use Rattle.cue_stage.specs.Stage.{Beginning, Happening, meets, befalls, Happens, incidents, store_after}
use Rattle.cue_stage.proofs.LifeLemmas.{begins, store_happens}
use Rattle.cue_stage.specs.Waiting.{WaitsForNoMore, is_settled}
use Rattle.cue_stage.specs.Going.{KeptSince, WaitingNeverRises}
use Rattle.cue_stage.proofs.AwaitedLemmas.{nobody_is_awaited_again}

-- ---- one state leads to another

-- acceptable events make t of s
pub record Leads (s t : ShowState) : Type 0 where
  pub events : List Event
  pub ok : IsTrue (are_acceptable s events)
  pub is : t ≡ after_events s events

pub leads_on : {s t u : ShowState} → Leads s t → Leads t u → Leads s u
leads_on {s = s} v w = record {
  events = v.events ++ w.events;
  ok = acceptable-append s v.events w.events v.ok
      (subst (λ (x : ShowState). IsTrue (are_acceptable x w.events)) v.is w.ok);
  is = w.is ∙ ap (λ (x : ShowState). after_events x w.events) v.is ∙ sym (after_events-append s v.events w.events);
}

pub leads_state : {s t : ShowState} → IsTrue (is_state s) → Leads s t → IsTrue (is_state t)
leads_state {s = s} h v =
    subst (λ (x : ShowState). IsTrue (is_state x)) (sym v.is) (is_state-after_events s v.events h v.ok)

pub leads_waits : {s t : ShowState} (q : ℕ) → IsTrue (is_state s) → IsTrue (is_settled s q) → Leads s t
    → WaitsForNoMore q s t
leads_waits {s = s} q h c v =
    subst (λ (x : ShowState). WaitsForNoMore q s x) (sym v.is) (nobody_is_awaited_again s v.events q h v.ok c)

-- inputs that are taken lead from the state before them to the one after them
pub leads_inputs : (s : ShowState) (inputs : List (ℕ × Input)) → IsTrue (is_state s)
    → Leads s (folded_all s (batches_given s inputs))
leads_inputs s inputs h = record {
  events = joined_list (batches_given s inputs);
  ok = inputs-ok s inputs h;
  is = sym (after_joined s (batches_given s inputs));
}

-- ---- what is kept is acceptable in turn

run_ok : (s : ShowState) (hs : List runs.Happening) → IsTrue (is_state s)
    → IsTrue (are_acceptable s (joined_list (run s hs).batches))
run_ok s [] h = refl
run_ok s (x ∷ hs) h =
    let batch : List Event = (given_at s x).batch in
    let next : ShowState = after_events s batch in
    let ok : IsTrue (are_acceptable s batch) = happening-ok s x h in
    subst (λ (es : List Event). IsTrue (are_acceptable s es)) (sym (joined-with batch (run next hs).batches))
    (acceptable-append s batch (joined_list (run next hs).batches) ok
    (run_ok next hs (is_state-after_events s batch h ok)))

pub kept_ok : (s : ShowState) (is : List Incident) (kept : List (List Event)) → IsTrue (is_state s)
    → AreKept s is kept → IsTrue (are_acceptable s (joined_list kept))
kept_ok s is kept h are =
    let r = kept_is_a_run s is kept are in
    subst (λ (bs : List (List Event)). IsTrue (are_acceptable s (joined_list bs))) r.same (run_ok s r.happenings h)

-- ---- stores that differ in what is owed alone

abbrev IsTwin : Store → Store → Type 0
IsTwin (running s o) (running t p) = s ≡ t
IsTwin (at_rest a b) (at_rest c d) = (a ≡ c) × (b ≡ d)
IsTwin (unformed a b) (unformed c d) = (a ≡ c) × (b ≡ d)
IsTwin _ _ = ⊥

twin_permits : (x y : Store) (i : Incident) → IsTwin x y → Permits x i → Permits y i
twin_permits (running s o) (running t p) i e ok = subst (λ (u : ShowState). PermitsRunning u i) e ok
twin_permits (at_rest a b) (at_rest c d) i e ok =
    subst (λ u. PermitsAtRest u d i) e.0 (subst (λ u. PermitsAtRest a u i) e.1 ok)
twin_permits (unformed a b) (unformed c d) i e ok =
    subst (λ u. PermitsUnformed u d i) e.0 (subst (λ u. PermitsUnformed a u i) e.1 ok)
twin_permits _ _ i e ok = absurd e

twin_still : (x y : Store) (one other : _) → IsTwin x y
    → IsTwin (still_at_rest x one other) (still_at_rest y one other)
twin_still (running s o) (running t p) one other e = (refl, refl)
twin_still (at_rest a b) (at_rest c d) one other e = (refl, refl)
twin_still (unformed a b) (unformed c d) one other e = (refl, refl)
twin_still _ _ one other e = absurd e

twin_committed : (x y : Store) (inputs : List (ℕ × Input)) → IsTwin x y
    → IsTwin (left_by x (committed inputs)) (left_by y (committed inputs))
twin_committed (running s o) (running t p) inputs e =
    ap (λ (u : ShowState). folded_all u (batches_given u inputs)) e
twin_committed (at_rest a b) (at_rest c d) inputs e = e
twin_committed (unformed a b) (unformed c d) inputs e = e
twin_committed _ _ inputs e = absurd e

twin_handed : (x y : Store) → IsTwin x y → IsTwin (left_by x handed_out) (left_by y handed_out)
twin_handed (running s o) (running t p) e = e
twin_handed (at_rest a b) (at_rest c d) e = e
twin_handed (unformed a b) (unformed c d) e = e
twin_handed _ _ e = absurd e

twin_some : (x y : Store) (n : ℕ) → IsTwin x y → IsTwin (left_by x (handed_some n)) (left_by y (handed_some n))
twin_some (running s o) (running t p) n e = e
twin_some (at_rest a b) (at_rest c d) n e = e
twin_some (unformed a b) (unformed c d) n e = e
twin_some _ _ n e = absurd e

twin_left : (x y : Store) (i : Incident) → IsTwin x y → IsTwin (left_by x i) (left_by y i)
twin_left x y formed e = refl
twin_left x y (stopped_in_form one other) e = twin_still x y one other e
twin_left x y (committed inputs) e = twin_committed x y inputs e
twin_left x y handed_out e = twin_handed x y e
twin_left x y (handed_some n) e = twin_some x y n e
twin_left x y (stopped n one other) e = (refl, refl)
twin_left x y (stopped_in_commit inputs n one other) e = (refl, refl)
twin_left x y (recovered s) e = refl
twin_left x y (stopped_in_recovery one other) e = twin_still x y one other e
twin_left x y (refused one other) e = twin_still x y one other e

twin_happens : (x y : Store) (is : List Incident) → IsTwin x y → engine.Happens x is → engine.Happens y is
twin_happens x y [] e h = tt
twin_happens x y (i ∷ is) e h =
    (twin_permits x y i e h.0, twin_happens (left_by x i) (left_by y i) is (twin_left x y i e) h.1)

twin_end : (x y : Store) (is : List Incident) → IsTwin x y → IsTwin (left_by_all x is) (left_by_all y is)
twin_end x y [] e = e
twin_end x y (i ∷ is) e = twin_end (left_by x i) (left_by y i) is (twin_left x y i e)

twin_reads : (x y : Store) (one other : List ℕ) → IsTwin x y → MayRead x one other → MayRead y one other
twin_reads (running s o) (running t p) one other e h = tt
twin_reads (at_rest a b) (at_rest c d) one other e h =
    subst (λ u. MayRead (at_rest u d) one other) e.0
    (subst (λ u. MayRead (at_rest a u) one other) e.1 h)
twin_reads (unformed a b) (unformed c d) one other e h =
    subst (λ u. MayRead (unformed u d) one other) e.0
    (subst (λ u. MayRead (unformed a u) one other) e.1 h)
twin_reads _ _ one other e h = absurd e

twin_has : (x y : Store) (one other : List ℕ) (u : ShowState) → IsTwin x y → HasState x one other u
    → HasState y one other u
twin_has (running s o) (running t p) one other u e h = sym e ∙ h
twin_has (at_rest a b) (at_rest c d) one other u e h = h
twin_has (unformed a b) (unformed c d) one other u e h = h
twin_has _ _ one other u e h = absurd e

-- ---- the incidents since

pub incidents_since : (later past : List Happening) → incidents (later ++ past) ≡ incidents past ++ incidents later
incidents_since [] past = sym (append-nil (incidents past))
incidents_since (meets i ∷ later) past =
    ap (λ (is : List Incident). is ++ i ∷ []) (incidents_since later past)
    ∙ append_assoc (incidents past) (incidents later) (i ∷ [])
incidents_since (befalls d what ∷ later) past = incidents_since later past

left_since : (store : Store) (is js : List Incident)
    → left_by_all store (is ++ js) ≡ left_by_all (left_by_all store is) js
left_since store [] js = refl
left_since store (i ∷ is) js = left_since (left_by store i) is js

happens_since : (store : Store) (is js : List Incident) → engine.Happens store (is ++ js)
    → engine.Happens (left_by_all store is) js
happens_since store [] js h = h
happens_since store (i ∷ is) js h = happens_since (left_by store i) is js h.1

-- the store by now is what the incidents since leave of the store then
store_since : (from : Beginning) (past later : List Happening)
    → store_after from (later ++ past) ≡ left_by_all (store_after from past) (incidents later)
store_since from past later = ap (left_by_all from.store) (incidents_since later past)
    ∙ left_since from.store (incidents past) (incidents later)

pub store_next : (from : Beginning) (past : List Happening) (i : Incident)
    → store_after from (meets i ∷ past) ≡ left_by (store_after from past) i
store_next from past i = left_since from.store (incidents past) (i ∷ [])

pub happened_before : (from : Beginning) (later past : List Happening) → Happens from (later ++ past) → Happens from past
happened_before from [] past h = h
happened_before from (x ∷ later) past h = happened_before from later past h.1

-- ---- what is kept since

pub kept_since : (from : Beginning) (past later : List Happening) (s : ShowState) (owed : List (ℕ × Send))
    (x y : List ℕ) → Happens from (later ++ past) → store_after from past ≡ running s owed → IsTrue (is_state s)
    → MayRead (store_after from (later ++ past)) x y → KeptSince from past later s x y
kept_since from past later s owed x y h at rules may =
    let is : List Incident = incidents later in
    let mine : Store = running s owed in
    let twin : Store = running s (all_pending s) in
    let end : store_after from (later ++ past) ≡ left_by_all mine is =
    store_since from past later ∙ ap (λ (store : Store). left_by_all store is) at in
    let all : engine.Happens from.store (incidents past ++ is) =
    subst (λ (js : List Incident). engine.Happens from.store js) (incidents_since later past)
    (store_happens from (later ++ past) h) in
    let happens : engine.Happens mine is =
    subst (λ (store : Store). engine.Happens store is) at (happens_since from.store (incidents past) is all) in
    let came : CameTo s twin is x y =
    whatever_happens s twin is x y rules (refl, refl) (twin_happens mine twin is refl happens)
    (twin_reads (left_by_all mine is) (left_by_all twin is) x y (twin_end mine twin is refl)
    (subst (λ (store : Store). MayRead store x y) end may)) in
    record {
      kept = came.kept;
      prefix = came.prefix;
      has = subst (λ (store : Store). HasState store x y (after_events s (joined_list came.kept))) (sym end)
          (twin_has (left_by_all twin is) (left_by_all mine is) x y (after_events s (joined_list came.kept))
          (twin_end twin mine is refl) came.has);
    }

pub kept_ok_since : {from : Beginning} {past later : List Happening} {s : ShowState} {x y : List ℕ}
    → IsTrue (is_state s) → (k : KeptSince from past later s x y) → IsTrue (are_acceptable s (joined_list k.kept))
kept_ok_since {later = later} {s = s} h k = kept_ok s (incidents later) k.kept h k.prefix

pub leads_since : {from : Beginning} {past later : List Happening} {s : ShowState} {x y : List ℕ}
    → IsTrue (is_state s) → (k : KeptSince from past later s x y) → Leads s (after_events s (joined_list k.kept))
leads_since {later = later} {s = s} h k =
    record { events = joined_list k.kept; ok = kept_ok s (incidents later) k.kept h k.prefix; is = refl }

-- an engine runs with a state
pub running_state : (from : Beginning) (past : List Happening) (s : ShowState) (owed : List (ℕ × Send))
    → Happens from past → store_after from past ≡ running s owed → IsTrue (is_state s)
running_state from past s owed h at =
    let came : CameTo empty_state from.store (incidents past) [] [] =
    whatever_happens empty_state from.store (incidents past) [] [] refl (begins from past h) (store_happens from past h)
    (subst (λ (store : Store). MayRead store [] []) (sym at) tt) in
    let is : s ≡ after_events empty_state (joined_list came.kept) =
    subst (λ (store : Store). HasState store [] [] (after_events empty_state (joined_list came.kept))) at came.has in
    subst (λ (t : ShowState). IsTrue (is_state t)) (sym is)
    (is_state-after_events empty_state (joined_list came.kept) refl
    (kept_ok empty_state (incidents past) came.kept refl came.prefix))

-- a store has one state at most
same_state : (store : Store) (x y : List ℕ) (s t : ShowState) → HasState store x y s → HasState store x y t → s ≡ t
same_state (running u owed) x y s t h k = sym h ∙ k
same_state (at_rest one other) x y s t h k = one_state x y s t h k
same_state (unformed one other) x y s t h k = h.0 ∙ sym k.0

-- an engine ran with the state s, and now the store has the state t
pub leads_to : (from : Beginning) (past later : List Happening) (s t : ShowState) (owed : List (ℕ × Send))
    (x y : List ℕ) → Happens from (later ++ past) → store_after from past ≡ running s owed
    → MayRead (store_after from (later ++ past)) x y → HasState (store_after from (later ++ past)) x y t → Leads s t
leads_to from past later s t owed x y h at may has =
    let rules = running_state from past s owed (happened_before from later past h) at in
    let k : KeptSince from past later s x y = kept_since from past later s owed x y h at rules may in
    let v : Leads s (after_events s (joined_list k.kept)) = leads_since rules k in
    record {
      events = v.events;
      ok = v.ok;
      is = same_state (store_after from (later ++ past)) x y t (after_events s (joined_list k.kept)) has k.has
          ∙ v.is;
    }

-- ---- the law

pub waiting_never_rises : WaitingNeverRises
waiting_never_rises from past later s owed q x y h at c may =
    let rules = running_state from past s owed (happened_before from later past h) at in
    let k : KeptSince from past later s x y = kept_since from past later s owed x y h at rules may in
    record { since = k; waits = leads_waits q rules c (leads_since rules k) }
