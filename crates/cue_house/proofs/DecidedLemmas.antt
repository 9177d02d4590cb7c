-- A Go among the kept batches came of a datagram that asked for it.
use Rattle.std.proofs.Common.{◌≡◌, ◌⊎◌, inl, inr, ℕ, Bool, true, false, List, [], ◌∷◌, ◌++◌, filter, find, Some}
use Rattle.std.proofs.Common.{if◌then◌else◌, refl, sym, ap, ◌∙◌, subst, true≢false, arith, IsTrue}
use Rattle.std.specs.List.{AllByRecursion, list_any}
use Rattle.cue_show.proofs.TextLemmas.{same_text-true}
use Rattle.cue_exchange.specs.declared.attempt.Reason.TheVariants.{Power}
use Rattle.cue_exchange.specs.Live.{has_cue}
use Rattle.cue_core.specs.declared.event.Event.{Event}
use Rattle.cue_core.specs.declared.event.Event.TheVariants as event
use Rattle.cue_core.specs.Events.{is_go_of, is_start_of}
use Rattle.cue_core.specs.Happenings.{is_undecided, onto}
use Rattle.cue_core.specs.History.{is_history, state_of}
use Rattle.cue_core.specs.State.{ShowState, empty_state}
use Rattle.cue_core.specs.Steps.{after_events}
use Rattle.cue_core.proofs.live.FindingLemmas.{found_passes}
use Rattle.cue_core.proofs.rules.BatchLemmas.{onto-append, state-onto}
use Rattle.cue_engine.specs.Given.{Input, given_of}
use Rattle.cue_engine.specs.Groups.{batches_given}
use Rattle.cue_engine.specs.Headline.{AreKept}
use Rattle.cue_engine.specs.Incidents.{Incident, formed, stopped_in_form, committed, handed_out, handed_some, stopped}
use Rattle.cue_engine.specs.Incidents.{stopped_in_commit, recovered, stopped_in_recovery, refused}
use Rattle.cue_engine.specs.Runs.{joined_list}
use Rattle.cue_engine.proofs.AskedLemmas.{further}
use Rattle.cue_engine.proofs.IncidentLemmas.{events_of, folded_batches}
use Rattle.cue_engine.proofs.KeptLemmas.{joined_kept, kept_is_a_history}
use Rattle.cue_stage.specs.Stage.{Happening, meets, befalls, incidents}
use Rattle.cue_stage.specs.Tasks.{cue_by}
use Rattle.cue_stage.proofs.BegunLemmas.{IsBegun, begun-history}
use Rattle.cue_stage.proofs.StartLemmas.{cue_stays, history_before, no_start}
use Rattle.cue_house.specs.Asking.{IsGivenAsAsked, IsReady}
use Rattle.cue_house.specs.Decisions.{ADecisionWasAsked, AMotionWasAsked, BringsGo, OneAsks, WasAsked}
use Rattle.cue_house.proofs.AskedLemmas.{go_only_by_command, none_cancelled}
use Rattle.cue_house.proofs.GoLemmas.{one_or_other, weaker}

-- ---- inputs that are taken together

inputs_give : (q : ℕ) (s : ShowState) (inputs : List (ℕ × Input))
    → list_any (is_go_of q) (joined_list (batches_given s inputs)) ≡ true
    → IsGivenAsAsked s (joined_list (batches_given s inputs)) q (OneAsks inputs)
inputs_give q s [] h = absurd (true≢false (sym h))
inputs_give q s (i ∷ is) h =
    let first : List Event = (given_of s i.0 i.1).batch in
    one_or_other s first (joined_list (batches_given (after_events s first) is)) q
    (λ k. go_only_by_command s i.0 i.1 q k) (λ k. inputs_give q (after_events s first) is k)
    (λ cue asks. record { input = i; there = (0, omega arith, refl); asks = asks })
    (λ cue one. record { input = one.input; there = further i one.input is one.there; asks = one.asks }) h

-- ---- incidents

pub incident_gives : (q : ℕ) (s : ShowState) (i : Incident) → list_any (is_go_of q) (events_of s i) ≡ true
    → IsGivenAsAsked s (events_of s i) q (BringsGo (meets i))
incident_gives q s formed h = absurd (true≢false (sym h))
incident_gives q s (stopped_in_form one other) h = absurd (true≢false (sym h))
incident_gives q s (committed inputs) h = inputs_give q s inputs h
incident_gives q s handed_out h = absurd (true≢false (sym h))
incident_gives q s (handed_some n) h = absurd (true≢false (sym h))
incident_gives q s (stopped n one other) h = absurd (true≢false (sym h))
incident_gives q s (stopped_in_commit inputs n one other) h = inputs_give q s inputs h
incident_gives q s (recovered t) h = absurd (none_cancelled q Power (filter is_undecided s.live) h)
incident_gives q s (stopped_in_recovery one other) h =
    absurd (none_cancelled q Power (filter is_undecided s.live) h)
incident_gives q s (refused one other) h = absurd (true≢false (sym h))

-- one of the incidents brings a go of the cue
abbrev AskedIn : List Incident → List ℕ → Type 0
AskedIn [] cue = ⊥
AskedIn (i ∷ is) cue = BringsGo (meets i) cue ⊎ AskedIn is cue

kept_gives : (q : ℕ) (s : ShowState) (is : List Incident) (kept : List (List Event)) → AreKept s is kept
    → list_any (is_go_of q) (joined_list kept) ≡ true → IsGivenAsAsked s (joined_list kept) q (AskedIn is)
kept_gives q s [] kept are h =
    absurd (true≢false (sym (ap (λ (bs : List (List Event)). list_any (is_go_of q) (joined_list bs)) (sym are) ∙ h)))
kept_gives q s (i ∷ is) kept (inr cut) h =
    weaker s (joined_list kept) q (λ cue k. inr k) (kept_gives q s is kept cut.1 h)
kept_gives q s (i ∷ is) kept (inl whole) h =
    let batch : List Event = events_of s i in
    let same : batch ++ joined_list whole.0 ≡ joined_list kept = joined_kept s i kept whole.0 whole.1.0 in
    let P : ShowState → Type 0 = λ t. AreKept t is whole.0 in
    let later : AreKept (after_events s batch) is whole.0 = subst P (folded_batches s i) whole.1.1 in
    subst (λ (es : List Event). IsGivenAsAsked s es q (AskedIn (i ∷ is))) same
    (one_or_other s batch (joined_list whole.0) q (λ k. incident_gives q s i k)
    (λ k. kept_gives q (after_events s batch) is whole.0 later k) (λ cue k. inl k) (λ cue k. inr k)
    (ap (list_any (is_go_of q)) same ∙ h))

-- ---- what happened, the latest first

asked_before_or_at : (cue : List ℕ) (is : List Incident) (i : Incident) → AskedIn (is ++ i ∷ []) cue
    → BringsGo (meets i) cue ⊎ AskedIn is cue
asked_before_or_at cue [] i (inl now) = inl now
asked_before_or_at cue [] i (inr later) = absurd later
asked_before_or_at cue (j ∷ is) i (inl first) = inr (inl first)
asked_before_or_at cue (j ∷ is) i (inr later) = by (asked_before_or_at cue is i later)
  where
    by : BringsGo (meets i) cue ⊎ AskedIn is cue → BringsGo (meets i) cue ⊎ AskedIn (j ∷ is) cue
    by (inl now) = inl now
    by (inr before) = inr (inr before)

asked_by_now : (past : List Happening) (cue : List ℕ) → AskedIn (incidents past) cue → WasAsked past cue
asked_by_now [] cue asked = absurd asked
asked_by_now (meets i ∷ past) cue asked =
    by (λ k. asked_by_now past cue k) (asked_before_or_at cue (incidents past) i asked)
  where
    by : (AskedIn (incidents past) cue → WasAsked past cue) → BringsGo (meets i) cue ⊎ AskedIn (incidents past) cue
        → WasAsked (meets i ∷ past) cue
    by f (inl now) = inl now
    by f (inr before) = inr (f before)
asked_by_now (befalls d what ∷ past) cue asked = inr (asked_by_now past cue asked)

-- ---- the cue with which it started

-- what holds of each holds of the one that is found
pub found_one : {A : Type 0} (P : A → Type 0) (t : A → Bool) (xs : List A) (a : A) → AllByRecursion P xs
    → find t xs ≡ Some a → P a
found_one P t [] a all e = cc
found_one P t (x ∷ xs) a all e = at (t x) (λ k. found_one P t xs a all.1 k) e
  where
    at : (b : Bool) → (find t xs ≡ Some a → P a) → (if b then Some x else find t xs) ≡ Some a → P a
    at true f k = let same : x ≡ a = cc in subst P same all.0
    at false f k = f k

pub ready_at_start : (q : ℕ) (cue : List ℕ) (es before later : List Event) → IsTrue (is_history (onto es []))
    → es ≡ before ++ event.Go q ∷ later → IsReady (after_events empty_state before) q cue
    → cue ≡ cue_by (onto es []) q
ready_at_start q cue es before later history split r =
    let h : List Event = onto before [] in
    let all : onto es [] ≡ onto (event.Go q ∷ later) h =
    ap (λ (xs : List Event). onto xs []) split ∙ onto-append before (event.Go q ∷ later) [] in
    let later_ok : IsTrue (is_history (onto (event.Go q ∷ later) h)) =
    subst (λ (xs : List Event). IsTrue (is_history xs)) all history in
    let ready : IsReady (state_of h) q cue =
    subst (λ (s : ShowState). IsReady s q cue) (sym (state-onto [] before)) r in
    let begun : IsBegun h (state_of h).show ready.attempt =
    found_one (IsBegun h (state_of h).show) (has_cue cue) (state_of h).live ready.attempt
    (begun-history h (history_before (event.Go q ∷ later) h later_ok)) ready.found in
    let started : list_any (is_start_of q) h ≡ true =
    subst (λ (n : ℕ). list_any (is_start_of n) h ≡ true) ready.number begun.0 in
    let none : list_any (is_start_of q) (event.Go q ∷ later) ≡ false = no_start q (event.Go q ∷ later) h later_ok started in
    sym (same_text-true ready.attempt.cue cue (found_passes (has_cue cue) (state_of h).live ready.attempt ready.found))
    ∙ begun.1 ∙ ap (cue_by h) ready.number ∙ sym (cue_stays q (event.Go q ∷ later) h none)
    ∙ sym (ap (λ (xs : List Event). cue_by xs q) all)

pub a_decision_was_asked : ADecisionWasAsked
a_decision_was_asked past kept q are gone =
    let es : List Event = joined_list kept in
    let g : IsGivenAsAsked empty_state es q (WasAsked past) =
    weaker empty_state es q (asked_by_now past) (kept_gives q empty_state (incidents past) kept are gone) in
    record {
      given = g;
      of_start = ready_at_start q g.cue es g.before g.later (kept_is_a_history (incidents past) kept are) g.split g.ready;
    }

pub a_motion_was_asked : AMotionWasAsked
a_motion_was_asked from past x y d q keeps moved =
    a_decision_was_asked past keeps.kept q keeps.prefix (keeps.decided d q moved)
