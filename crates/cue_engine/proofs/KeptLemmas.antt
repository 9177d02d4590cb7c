-- What a store keeps is a run, and so what the laws on runs say holds of it.
use Rattle.std.proofs.Common.{◌≡◌, inl, inr, ℕ, Bool, true, false, ◌&&◌, ◌||◌, List, [], ◌∷◌, ◌++◌, nat_eq, refl, sym}
use Rattle.std.proofs.Common.{ap, ◌∙◌, subst, true≢false, IsTrue}
use Rattle.std.specs.List.{list_all, list_any}
use Rattle.cue_core.specs.declared.event.Event.{Event}
use Rattle.cue_core.specs.declared.event.Event.TheVariants as event
use Rattle.cue_core.specs.Events.{is_cancel_of, is_go_of}
use Rattle.cue_core.specs.Happenings.{onto}
use Rattle.cue_core.specs.History.{is_history}
use Rattle.cue_core.specs.Pending.{Order, go_2pc, cancel}
use Rattle.cue_core.specs.Safety.{is_go_to, is_cancel_to}
use Rattle.cue_core.specs.State.{ShowState, empty_state}
use Rattle.cue_core.specs.Steps.{after_events}
use Rattle.cue_core.proofs.lists.AnyLemmas.{any-append, either, same}
use Rattle.cue_core.proofs.lists.ConditionLemmas.{both}
use Rattle.cue_keeper.specs.Stands.{folded_all}
use Rattle.cue_outbox.specs.Sending.{Send, order}
use Rattle.cue_engine.specs.Attempts.{IsDecidedInOrder, is_order_with}
use Rattle.cue_engine.specs.Given.{given_recovery}
use Rattle.cue_engine.specs.Groups.{all_took}
use Rattle.cue_engine.specs.Headline.{AreKept, CameTo, all_handed, batches_of}
use Rattle.cue_engine.specs.Incidents.{Incident, committed, stopped_in_commit, recovered, stopped_in_recovery}
use Rattle.cue_engine.specs.Kept.{IsOfRun, KeptInOrder, KeptIsAHistory, KeptIsARun, KeptNumberNamesOne, NeverHandedBoth}
use Rattle.cue_engine.specs.Kept.{happenings_of, was_handed}
use Rattle.cue_engine.specs.Runs.{Happening, run, given_at, joined_list, rests, send_rests, with_batch}
use Rattle.cue_engine.specs.Runs as runs
use Rattle.cue_engine.proofs.AttemptLemmas.{contrary, decided_in_order, no_any, number_names_one}
use Rattle.cue_engine.proofs.GroupLemmas.{is_a_run, joined_append, with_first}
use Rattle.cue_engine.proofs.HistoryLemmas.{inputs_make_histories}
use Rattle.cue_engine.proofs.IncidentLemmas.{events_of, joined_batches}
use Rattle.cue_engine.proofs.PromisedLemmas.{whatever_happens}

-- ---- a run

with_more : (batch : List Event) (first then : List (List Event))
    → with_batch batch (first ++ then) ≡ with_batch batch first ++ then
with_more [] first then = refl
with_more (e ∷ es) first then = refl

run_more : (s : ShowState) (hs later : List Happening)
    → (run s (hs ++ later)).batches ≡ (run s hs).batches ++ (run (run s hs).state later).batches
run_more s [] later = refl
run_more s (h ∷ hs) later =
    let batch : List Event = (given_at s h).batch in
    let next : ShowState = after_events s batch in
    ap (with_batch batch) (run_more next hs later)
    ∙ with_more batch (run next hs).batches (run (run next hs).state later).batches

-- a run leads to the state that its batches make
folded_with : (s : ShowState) (batch : List Event) (batches : List (List Event))
    → folded_all (after_events s batch) batches ≡ folded_all s (with_batch batch batches)
folded_with s [] batches = refl
folded_with s (e ∷ es) batches = refl

run_folds : (s : ShowState) (hs : List Happening) → (run s hs).state ≡ folded_all s (run s hs).batches
run_folds s [] = refl
run_folds s (h ∷ hs) =
    let batch : List Event = (given_at s h).batch in
    let next : ShowState = after_events s batch in
    run_folds next hs ∙ folded_with s batch (run next hs).batches

-- the batches of the incident are those of the run
incident_runs : (s : ShowState) (i : Incident) → (run s (happenings_of i)).batches ≡ batches_of s i
incident_runs s (committed inputs) = (is_a_run s inputs).1
incident_runs s (stopped_in_commit inputs n one other) = (is_a_run s inputs).1
incident_runs s (recovered t) = with_first (given_recovery s).batch []
incident_runs s (stopped_in_recovery one other) = with_first (given_recovery s).batch []
incident_runs s _ = refl

pub kept_is_a_run : KeptIsARun
kept_is_a_run s [] kept are = record { happenings = []; came = refl; same = sym are }
kept_is_a_run s (i ∷ is) kept (inl whole) =
    let here = incident_runs s i in
    let later : IsOfRun (folded_all s (batches_of s i)) is whole.0 =
    kept_is_a_run (folded_all s (batches_of s i)) is whole.0 whole.1.1 in
    let hs : List Happening = later.happenings in
    record {
      happenings = happenings_of i ++ hs;
      came = inl (hs, (refl, later.came));
      same = run_more s (happenings_of i) hs
          ∙ ap (λ (bs : List (List Event)). bs ++ (run (run s (happenings_of i)).state hs).batches) here
          ∙ ap (λ (t : ShowState). batches_of s i ++ (run t hs).batches)
          (run_folds s (happenings_of i) ∙ ap (folded_all s) here)
          ∙ ap (λ (bs : List (List Event)). batches_of s i ++ bs) later.same
          ∙ sym whole.1.0;
    }
kept_is_a_run s (i ∷ is) kept (inr cut) =
    let others : IsOfRun s is kept = kept_is_a_run s is kept cut.1 in
    record { happenings = others.happenings; came = inr (cut.0, others.came); same = others.same }

pub kept_is_a_history : KeptIsAHistory
kept_is_a_history is kept are =
    let r : IsOfRun empty_state is kept = kept_is_a_run empty_state is kept are in
    subst (λ (bs : List (List Event)). IsTrue (is_history (onto (joined_list bs) []))) r.same
    (inputs_make_histories r.happenings)

pub kept_in_order : KeptInOrder
kept_in_order is kept q before later are split =
    let r : IsOfRun empty_state is kept = kept_is_a_run empty_state is kept are in
    decided_in_order r.happenings q before later (ap joined_list r.same ∙ split)

pub number_names_one_kept : KeptNumberNamesOne
number_names_one_kept is kept q cue deadline before later are split =
    let r : IsOfRun empty_state is kept = kept_is_a_run empty_state is kept are in
    number_names_one r.happenings q cue deadline before later (ap joined_list r.same ∙ split)

-- the events of what is kept: those of the first incident, and then those of the others
pub joined_kept : (s : ShowState) (i : Incident) (kept others : List (List Event)) → kept ≡ batches_of s i ++ others
    → events_of s i ++ joined_list others ≡ joined_list kept
joined_kept s i kept others is = ap (λ (es : List Event). es ++ joined_list others) (sym (joined_batches s i))
    ∙ sym (joined_append (batches_of s i) others) ∙ ap joined_list (sym is)

-- ---- around a Go

-- the events before a Go, and those after it
pub record Around (q : ℕ) (es : List Event) : Type 0 where
  pub before : List Event
  pub later : List Event
  pub split : es ≡ before ++ event.Go q ∷ later

one_before : (q : ℕ) (e : Event) (es : List Event) → Around q es → Around q (e ∷ es)
one_before q e es a = record {
  before = e ∷ a.before;
  later = a.later;
  split = ap (λ (xs : List Event). e ∷ xs) a.split;
}

pub around : (q : ℕ) (es : List Event) → list_any (is_go_of q) es ≡ true → Around q es
around q [] h = absurd (true≢false (sym h))
around q (event.Go p ∷ es) h = by (nat_eq p q) refl h (λ k. one_before q (event.Go p) es (around q es k))
  where
    by : (b : Bool) → nat_eq p q ≡ b → (b || list_any (is_go_of q) es) ≡ true
        → (list_any (is_go_of q) es ≡ true → Around q (event.Go p ∷ es)) → Around q (event.Go p ∷ es)
    by true e k f = record { before = []; later = es; split = ap (λ (n : ℕ). event.Go n ∷ es) (same p q e) }
    by false e k f = f k
around q (e ∷ es) h = one_before q e es (around q es h)

no_cancel : {A : Type 0} (q : ℕ) (before later : List Event) → IsDecidedInOrder q before later
    → list_any (is_cancel_of q) (before ++ event.Go q ∷ later) ≡ true → A
no_cancel {A = A} q before later o h =
    by (list_any (is_cancel_of q) before) refl (sym (any-append (is_cancel_of q) before (event.Go q ∷ later)) ∙ h)
  where
    by : (b : Bool) → list_any (is_cancel_of q) before ≡ b → (b || list_any (is_cancel_of q) later) ≡ true → A
    by true e k = contrary (list_any (is_cancel_of q) before) e o.not_cancelled
    by false e k = contrary (list_any (is_cancel_of q) later) k o.stays

-- what is kept has no Go beside a Cancel
pub never_both : {A : Type 0} (q : ℕ) (is : List Incident) (kept : List (List Event)) → AreKept empty_state is kept
    → list_any (is_go_of q) (joined_list kept) ≡ true → list_any (is_cancel_of q) (joined_list kept) ≡ true → A
never_both q is kept are gone given_up =
    let a : Around q (joined_list kept) = around q (joined_list kept) gone in
    no_cancel q a.before a.later (kept_in_order is kept q a.before a.later are a.split)
    (subst (λ (es : List Event). list_any (is_cancel_of q) es ≡ true) a.split given_up)

-- ---- what was handed over

-- where one of them passes the test, and the test has b hold of all that rest on the events, b holds
one_passes : (test : Order → Bool) (b : Bool) (es : List Event) (ms : List (ℕ × Send))
    → ((m : Send) → send_rests empty_state es m ≡ true → is_order_with test m ≡ true → b ≡ true)
    → list_all (rests empty_state es) ms ≡ true → list_any (λ (m : ℕ × Send). is_order_with test m.1) ms ≡ true
    → b ≡ true
one_passes test b es [] f all any = absurd (true≢false (sym any))
one_passes test b es (m ∷ ms) f all any =
    let w = both (rests empty_state es m) (list_all (rests empty_state es) ms) all in
    either (is_order_with test m.1) (list_any (λ (n : ℕ × Send). is_order_with test n.1) ms) b
    (λ k. f m.1 w.0 k) (λ k. one_passes test b es ms f w.1 k) any

go_rests : (es : List Event) (q d : ℕ) (m : Send) → send_rests empty_state es m ≡ true
    → is_order_with (is_go_to q d) m ≡ true → list_any (is_go_of q) es ≡ true
go_rests es q d (order (go_2pc p e)) h k =
    let is : p ≡ q = same p q (both (nat_eq p q) (nat_eq e d) k).0 in
    subst (λ (n : ℕ). list_any (is_go_of n) es ≡ true) is h
go_rests es q d _ h k = absurd (true≢false (sym k))

cancel_rests : (es : List Event) (q d : ℕ) (m : Send) → send_rests empty_state es m ≡ true
    → is_order_with (is_cancel_to q d) m ≡ true → list_any (is_cancel_of q) es ≡ true
cancel_rests es q d (order (cancel p e)) h k =
    let is : p ≡ q = same p q (both (nat_eq p q) (nat_eq e d) k).0 in
    subst (λ (n : ℕ). list_any (is_cancel_of n) es ≡ true) is (both _ (list_any (is_cancel_of p) es) h).1
cancel_rests es q d _ h k = absurd (true≢false (sym k))

pub never_handed_both : NeverHandedBoth
never_handed_both store is x y q d e begins ok may =
    let came : CameTo empty_state store is x y = whatever_happens empty_state store is x y refl begins ok may in
    let es : List Event = joined_list came.kept in
    no_any (was_handed (is_go_to q d) store is && was_handed (is_cancel_to q e) store is)
    (λ k.
    let w = both (was_handed (is_go_to q d) store is) (was_handed (is_cancel_to q e) store is) k in
    never_both q is came.kept came.prefix
    (one_passes (is_go_to q d) (list_any (is_go_of q) es) es (all_handed store is) (go_rests es q d) came.decided w.0)
    (one_passes (is_cancel_to q e) (list_any (is_cancel_of q) es) es (all_handed store is) (cancel_rests es q e)
    came.decided w.1))
