-- From a finger to a machine: the GO that was pressed was for the attempt that was given, or for one of its cue that
-- ended before it started.
use Rattle.std.proofs.Common.{◌≡◌, ◌⊎◌, inl, inr, ℕ, zero, suc, ◌≤◌, List, [], ◌∷◌, ◌++◌, length, refl, sym, ap}
use Rattle.std.proofs.Common.{◌∙◌, subst, append_assoc, arith, IsTrue}
use Rattle.std.specs.List.{list_any}
use Rattle.cue_show.proofs.TextLemmas.{same_text-true}
use Rattle.cue_exchange.specs.declared.attempt.Attempt.{Attempt}
use Rattle.cue_exchange.specs.Live.{has_cue}
use Rattle.cue_exchange.specs.Steps.{holds}
use Rattle.cue_core.specs.declared.event.Event.{Event}
use Rattle.cue_core.specs.declared.event.Event.TheVariants as event
use Rattle.cue_core.specs.Events.{is_cancel_of}
use Rattle.cue_core.specs.Happenings.{onto}
use Rattle.cue_core.specs.State.{ShowState, empty_state}
use Rattle.cue_core.specs.Steps.{after_events}
use Rattle.cue_core.proofs.live.FindingLemmas.{found, found_passes}
use Rattle.cue_core.proofs.rules.AtCueLemmas.{rises_of}
use Rattle.cue_core.proofs.rules.RuleLemmas.{rules_of}
use Rattle.cue_core.proofs.verdicts.LiveJudgementLemmas.{found_holds}
use Rattle.cue_engine.specs.Headline.{AreKept}
use Rattle.cue_engine.specs.Incidents.{Incident}
use Rattle.cue_engine.specs.Runs.{joined_list}
use Rattle.cue_engine.proofs.KeptLemmas.{kept_is_a_history, never_both}
use Rattle.cue_stage.specs.Laws.{HeardCancel, KeepsEachDecision, WasToGiveUp, WasToMove}
use Rattle.cue_stage.specs.Stage.{Beginning, meets, befalls, incidents}
use Rattle.cue_stage.specs.Tasks.{cue_by}
use Rattle.cue_stage.proofs.ConsentingLemmas.{only_with_consent}
use Rattle.cue_house.specs.Asking.{IsReady}
use Rattle.cue_house.specs.Copies.{DesksReadTheStore, IsFor, WasPressedFor, events_by}
use Rattle.cue_house.specs.Decisions.{BringsGo}
use Rattle.cue_house.specs.Finger.{FromAFingerToAMachine}
use Rattle.cue_house.specs.House.{Occurrence, on_stage, at_desk, Lives, OnlyDesksCommand, stage_of}
use Rattle.cue_house.specs.Presses.{WasPressed}
use Rattle.cue_house.proofs.ApartLemmas.{IsHistory, LivesAs, front_is, is_for, state_at}
use Rattle.cue_house.proofs.CopyLemmas.{WasLive, met_before, was_live}
use Rattle.cue_house.proofs.DecidedLemmas.{ready_at_start}
use Rattle.cue_house.proofs.HouseLemmas.{Desks, brought_pressed, earlier_desks}
use Rattle.cue_house.proofs.PlaceLemmas.{BringsAt, IsGivenAt, StandsBefore, first_before, kept_at}

-- ---- by events

-- what is ready at a cue is live there
ready_lives : (es : List Event) (q : ℕ) (cue : List ℕ) → IsHistory es → IsReady (after_events empty_state es) q cue
    → (b : Attempt) × LivesAs es q b × (b.cue ≡ cue)
ready_lives es q cue h r =
    let s : ShowState = after_events empty_state es in
    let f = found q (has_cue cue) s.live (rises_of s.live (rules_of s (state_at es h)).live)
    (subst (λ (n : ℕ). IsTrue (holds n (has_cue cue) s.live)) r.number
    (found_holds (has_cue cue) (has_cue cue) s.live r.attempt r.found (found_passes (has_cue cue) s.live r.attempt r.found))) in
    (f.0, f.1, same_text-true f.0.cue cue f.2)

-- p was live at the cue by some of the first events, and q was given at it after them
for_it : (xs before later es : List Event) (p q : ℕ) (cue : List ℕ) (a : Attempt) → IsHistory es
    → es ≡ before ++ event.Go q ∷ later → StandsBefore xs before → LivesAs xs p a → a.cue ≡ cue
    → IsReady (after_events empty_state before) q cue → IsFor es p q
for_it xs before later es p q cue a h split stands lives of_cue ready =
    let whole : es ≡ (xs ++ stands.0) ++ event.Go q ∷ later =
    split ∙ ap (λ (zs : List Event). zs ++ event.Go q ∷ later) stands.1 in
    let all : IsHistory ((xs ++ stands.0) ++ event.Go q ∷ later) = subst (λ (zs : List Event). IsHistory zs) whole h in
    let second : IsReady (after_events empty_state (xs ++ stands.0)) q cue =
    subst (λ (zs : List Event). IsReady (after_events empty_state zs) q cue) stands.1 ready in
    let b = ready_lives (xs ++ stands.0) q cue (front_is (xs ++ stands.0) (event.Go q ∷ later) all) second in
    subst (λ (zs : List Event). IsFor zs p q) (sym whole)
    (is_for xs stands.0 (event.Go q ∷ later) p q a b.0 all lives b.1 (of_cue ∙ sym b.2))

-- ---- in a house

at_last : (k : ℕ) (is : List Incident) (i : Incident) (cue : List ℕ) → BringsAt k (is ++ i ∷ []) cue
    → ((k ≡ length is) × BringsGo (meets i) cue) ⊎ BringsAt k is cue
at_last zero [] i cue brings = inl (refl, brings)
at_last (suc k) [] i cue brings = absurd brings
at_last zero (j ∷ is) i cue brings = inr brings
at_last (suc k) (j ∷ is) i cue brings = by (at_last k is i cue brings)
  where
    by : ((k ≡ length is) × BringsGo (meets i) cue) ⊎ BringsAt k is cue
        → ((suc k ≡ suc (length is)) × BringsGo (meets i) cue) ⊎ BringsAt k is cue
    by (inl now) = inl (ap suc now.0, now.1)
    by (inr before) = inr before

module _ (events : ℕ → List Event) (es : List Event) (q place : ℕ) (cue : List ℕ)
    (each : (met p : ℕ) → met ≤ place → WasLive events met cue p → IsFor es p q) where
  -- what was pressed before the incident at this place was for q
  pressed_for : (house : List Occurrence) → DesksReadTheStore events house
      → length (incidents (stage_of house)) ≤ place → WasPressed house cue → WasPressedFor es q house cue
  pressed_for [] copies le pressed = absurd pressed
  pressed_for (on_stage h ∷ past) copies le pressed =
      let l = met_before events h (stage_of past) in pressed_for past copies (omega arith) pressed
  pressed_for (at_desk n t ∷ past) copies le (inl press) =
      inl (
        press,
        each (length (incidents (stage_of past))) press.attempt le
            (was_live events past n cue press.attempt copies.1 press.still),
      )
  pressed_for (at_desk n t ∷ past) copies le (inr earlier) = inr (pressed_for past copies.1 le earlier)

  placed_pressed : (house : List Occurrence) → Desks house → OnlyDesksCommand house
      → DesksReadTheStore events house
      → BringsAt place (incidents (stage_of house)) cue → WasPressedFor es q house cue
  placed_pressed [] desks only copies brings = absurd (none place brings)
    where
      none : (k : ℕ) → BringsAt k [] cue → ⊥
      none zero b = b
      none (suc k) b = b
  placed_pressed (at_desk n t ∷ past) desks only copies brings =
      inr (placed_pressed past (earlier_desks n t past desks) only copies.1 brings)
  placed_pressed (on_stage (befalls d what) ∷ past) desks only copies brings =
      placed_pressed past desks only.1 copies brings
  placed_pressed (on_stage (meets i) ∷ past) desks only copies brings =
      by (λ b. placed_pressed past desks only.1 copies b) (at_last place (incidents (stage_of past)) i cue brings)
    where
      by : (BringsAt place (incidents (stage_of past)) cue → WasPressedFor es q past cue)
          → ((place ≡ length (incidents (stage_of past))) × BringsGo (meets i) cue)
          ⊎ BringsAt place (incidents (stage_of past)) cue
          → WasPressedFor es q past cue
      by f (inl now) =
          let e : place ≡ length (incidents (stage_of past)) = now.0 in
          pressed_for past copies (omega arith) (brought_pressed past (meets i) cue desks only.0 now.1)
      by f (inr before) = f before

-- ---- the law

each_for_it : (is : List Incident) (kept : List (List Event)) (are : AreKept empty_state is kept) (q : ℕ)
    (g : IsGivenAt empty_state (joined_list kept) q is (events_by is kept are)) (met p : ℕ) → met ≤ g.place
    → WasLive (events_by is kept are) met g.cue p → IsFor (joined_list kept) p q
each_for_it is kept are q g met p le w =
    let below : w.number ≤ met = w.by_then in
    let first : StandsBefore (events_by is kept are w.number) (events_by is kept are g.place) =
    first_before w.number g.place empty_state is kept are (omega arith) in
    let stands : StandsBefore (events_by is kept are w.number) g.before = (
      first.0 ++ g.more,
      g.after_first ∙ ap (λ (zs : List Event). zs ++ g.more) first.1
          ∙ append_assoc (events_by is kept are w.number) first.0 g.more,
    ) in
    for_it (events_by is kept are w.number) g.before g.later (joined_list kept) p q g.cue w.attempt
    (kept_is_a_history is kept are) g.split stands w.lives w.of_cue g.ready

pressed_for_it : (from : Beginning) (house : List Occurrence) (x y : List ℕ) (d q : ℕ)
    → (keeps : KeepsEachDecision from (stage_of house) x y) → Lives from house → OnlyDesksCommand house
    → DesksReadTheStore (events_by (incidents (stage_of house)) keeps.kept keeps.prefix) house
    → WasToMove from (stage_of house) d q
    → WasPressedFor (joined_list keeps.kept) q house (cue_by (onto (joined_list keeps.kept) []) q)
pressed_for_it from house x y d q keeps lives only copies moved =
    let is : List Incident = incidents (stage_of house) in
    let es : List Event = joined_list keeps.kept in
    let g : IsGivenAt empty_state es q is (events_by is keeps.kept keeps.prefix) =
    kept_at q empty_state is keeps.kept keeps.prefix (keeps.decided d q moved) in
    let at_start : g.cue ≡ cue_by (onto es []) q =
    ready_at_start q g.cue es g.before g.later (kept_is_a_history is keeps.kept keeps.prefix) g.split g.ready in
    subst (WasPressedFor es q house) at_start
    (placed_pressed (events_by is keeps.kept keeps.prefix) es q g.place g.cue
    (each_for_it is keeps.kept keeps.prefix q g) house lives.desks only copies g.asked)

pub from_a_finger_to_a_machine : FromAFingerToAMachine
from_a_finger_to_a_machine from house x y d q keeps lives only copies moved = record {
  decided = keeps.decided d q moved;
  pressed = pressed_for_it from house x y d q keeps lives only copies moved;
  consented = λ answers. only_with_consent from (stage_of house) x y d q lives.stage answers keeps moved;
  not_by_halves = λ e ended. by e ended;
}
  where
    both : IsTrue (list_any (is_cancel_of q) (joined_list keeps.kept)) → ⊥
    both given_up = never_both q (incidents (stage_of house)) keeps.kept keeps.prefix (keeps.decided d q moved) given_up

    by : (e : ℕ) → HeardCancel from (stage_of house) e q ⊎ WasToGiveUp from (stage_of house) e q → ⊥
    by e (inl heard) = both (keeps.cancelled e q heard)
    by e (inr ordered) = both (keeps.given_up e q ordered)
