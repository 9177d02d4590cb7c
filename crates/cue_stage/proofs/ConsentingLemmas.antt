-- A device moves only with the consent of each required device, where only devices answer.
use Rattle.std.proofs.Common.{◌≡◌, ◌⊎◌, inl, inr, ℕ, Bool, true, false, cond, ◌&&◌, ◌||◌, List, [], ◌∷◌, ◌++◌}
use Rattle.std.proofs.Common.{nat_eq, refl, sym, ap, ◌∙◌, subst, true≢false, IsTrue}
use Rattle.std.specs.List.{AllByRecursion, Contains, list_all, list_any}
use Rattle.cue_show.specs.declared.part.Part.{Part}
use Rattle.cue_core.specs.declared.event.Event.{Event}
use Rattle.cue_core.specs.declared.event.Event.TheVariants as event
use Rattle.cue_core.specs.Events.{is_ready_of, is_start_of}
use Rattle.cue_core.specs.Happenings.{onto}
use Rattle.cue_core.specs.History.{is_history, parts_by}
use Rattle.cue_core.specs.State.{empty_state}
use Rattle.cue_core.proofs.lists.AnyLemmas.{any-append, or_left}
use Rattle.cue_core.proofs.lists.ConditionLemmas.{both}
use Rattle.cue_core.proofs.rules.BatchLemmas.{onto-append}
use Rattle.cue_core.specs.InOrder.{may_go_by}
use Rattle.cue_engine.specs.Attempts.{IsDecidedInOrder}
use Rattle.cue_engine.specs.Incidents.{Incident, formed, stopped_in_form, committed, handed_out, handed_some, stopped}
use Rattle.cue_engine.specs.Incidents.{stopped_in_commit, recovered, stopped_in_recovery, refused}
use Rattle.cue_engine.specs.Runs.{joined_list}
use Rattle.cue_engine.proofs.AttemptLemmas.{any_in}
use Rattle.cue_engine.proofs.KeptLemmas.{Around, around, kept_in_order, kept_is_a_history}
use Rattle.cue_device.specs.Hearing.{device_at_rest}
use Rattle.cue_device.specs.Histories.{answers_of}
use Rattle.cue_device.specs.Laws.{has_stood_by}
use Rattle.cue_stage.specs.Stage.{Beginning, Happening, meets, befalls, incidents, life_of}
use Rattle.cue_stage.specs.Consent.{HasStoodBy, IsRequired, OnlyDevicesAnswer, OnlyWithConsent}
use Rattle.cue_stage.proofs.DeliveredLemmas.{each_has}
use Rattle.cue_stage.proofs.LifeLemmas.{keeps_numbers}
use Rattle.cue_stage.proofs.PreparedLemmas.{said_told, said_still}
use Rattle.cue_stage.proofs.SayingLemmas.{SaidIn, SaysAt, kept_says}
use Rattle.cue_stage.proofs.StartLemmas.{no_start, parts_stay}

-- ---- what an input says has been answered

answered_still : (from : Beginning) (h : Happening) (past : List Happening) (d q : ℕ) → HasStoodBy from past d q
    → HasStoodBy from (h ∷ past) d q
answered_still from (meets i) past d q said = said
answered_still from (befalls e what) past d q said = by (nat_eq e d)
  where
    by : (b : Bool) → has_stood_by q
        (answers_of (device_at_rest d (from.over d)) (cond b (what ∷ life_of d past) (life_of d past))) ≡ true
    by true = said_still d (from.over d) q what (life_of d past) said
    by false = said

said_before_or_at : (q d : ℕ) (is : List Incident) (i : Incident) → SaidIn q d (is ++ i ∷ [])
    → SaidIn q d is ⊎ SaysAt q d i
said_before_or_at q d [] i (inl now) = inr now
said_before_or_at q d [] i (inr later) = absurd later
said_before_or_at q d (j ∷ is) i (inl first) = inl (inl first)
said_before_or_at q d (j ∷ is) i (inr later) = by (said_before_or_at q d is i later)
  where
    by : SaidIn q d is ⊎ SaysAt q d i → SaidIn q d (j ∷ is) ⊎ SaysAt q d i
    by (inl before) = inl (inr before)
    by (inr now) = inr now

true_now : (from : Beginning) (past : List Happening) (d q : ℕ) (i : Incident) → OnlyDevicesAnswer from (meets i ∷ past)
    → SaysAt q d i → HasStoodBy from past d q
true_now from past d q formed only says = absurd says
true_now from past d q (stopped_in_form one other) only says = absurd says
true_now from past d q (committed inputs) only says = only.0 says.input says.there d q says.says
true_now from past d q handed_out only says = absurd says
true_now from past d q (handed_some n) only says = absurd says
true_now from past d q (stopped n one other) only says = absurd says
true_now from past d q (stopped_in_commit inputs n one other) only says = only.0 says.input says.there d q says.says
true_now from past d q (recovered t) only says = absurd says
true_now from past d q (stopped_in_recovery one other) only says = absurd says
true_now from past d q (refused one other) only says = absurd says

said_is_answered : (from : Beginning) (past : List Happening) (d q : ℕ) → OnlyDevicesAnswer from past
    → SaidIn q d (incidents past) → HasStoodBy from past d q
said_is_answered from [] d q only said = absurd said
said_is_answered from (meets i ∷ past) d q only said =
    by (λ k. said_is_answered from past d q only.1 k) (said_before_or_at q d (incidents past) i said)
  where
    by : (SaidIn q d (incidents past) → HasStoodBy from past d q) → SaidIn q d (incidents past) ⊎ SaysAt q d i
        → HasStoodBy from past d q
    by f (inl before) = f before
    by f (inr now) = true_now from past d q i only now
said_is_answered from (befalls e what ∷ past) d q only said =
    answered_still from (befalls e what) past d q (said_is_answered from past d q only.1 said)

-- ---- consent

all_of : {X : Type 0} (p : X → Bool) (xs : List X) → list_all p xs ≡ true → AllByRecursion (λ x. p x ≡ true) xs
all_of p [] h = tt
all_of p (x ∷ xs) h = let w = both (p x) (list_all p xs) h in (w.0, all_of p xs w.1)

-- a required one was ready
required_ready : (ready optional excused : Bool) → (ready || (optional && excused)) ≡ true → optional ≡ false
    → ready ≡ true
required_ready true optional excused h e = refl
required_ready false false excused h e = absurd (true≢false (sym h))
required_ready false true excused h e = absurd (true≢false e)

-- the parts of q by the kept events are those by the events before its Go
parts_before : (q : ℕ) (before later : List Event) → IsTrue (is_history (onto (before ++ event.Go q ∷ later) []))
    → list_any (is_start_of q) before ≡ true
    → parts_by (onto (before ++ event.Go q ∷ later) []) q ≡ parts_by (onto before []) q
parts_before q before later h started =
    let past : List Event = onto before [] in
    let split : onto (before ++ event.Go q ∷ later) [] ≡ onto (event.Go q ∷ later) past =
    onto-append before (event.Go q ∷ later) [] in
    let begun : list_any (is_start_of q) past ≡ true =
    any_in (is_start_of q) before [] (or_left (list_any (is_start_of q) before) false started) in
    let none = no_start q (event.Go q ∷ later) past (subst (λ (es : List Event). IsTrue (is_history es)) split h)
    begun in
    ap (λ (es : List Event). parts_by es q) split ∙ parts_stay q (event.Go q ∷ later) past none

-- each required device of what was decided was ready before
was_ready : (q e : ℕ) (es before later : List Event) → es ≡ before ++ event.Go q ∷ later
    → IsTrue (is_history (onto es [])) → IsDecidedInOrder q before later → IsRequired es q e
    → list_any (is_ready_of q e) es ≡ true
was_ready q e es before later split h decided r =
    let same : parts_by (onto es []) q ≡ parts_by (onto before []) q =
    ap (λ (xs : List Event). parts_by (onto xs []) q) split
    ∙ parts_before q before later (subst (λ (xs : List Event). IsTrue (is_history (onto xs []))) split h)
    decided.started in
    let here : Contains (parts_by (onto before []) q) r.part =
    subst (λ (ps : List Part). Contains ps r.part) same r.of_cue in
    let may : may_go_by before q r.part ≡ true =
    each_has (λ (p : Part). may_go_by before q p ≡ true) (parts_by (onto before []) q) r.part
    (all_of (may_go_by before q) (parts_by (onto before []) q) decided.all_ready) here in
    let ready = required_ready (list_any (is_ready_of q r.part.device) before) r.part.optional _ may r.required in
    let there = or_left (list_any (is_ready_of q r.part.device) before)
    (list_any (is_ready_of q r.part.device) (event.Go q ∷ later)) ready in
    subst (λ (d : ℕ). list_any (is_ready_of q d) es ≡ true) r.is_it
    (ap (list_any (is_ready_of q r.part.device)) split
    ∙ (any-append (is_ready_of q r.part.device) before (event.Go q ∷ later) ∙ there))

started_in : (q : ℕ) (before later es : List Event) → es ≡ before ++ event.Go q ∷ later
    → list_any (is_start_of q) before ≡ true → list_any (is_start_of q) es ≡ true
started_in q before later es split h = ap (list_any (is_start_of q)) split
    ∙ (any-append (is_start_of q) before (event.Go q ∷ later) ∙ or_left (list_any (is_start_of q) before) _ h)

pub only_with_consent : OnlyWithConsent
only_with_consent from past x y d q h only keeps moved =
    let es : List Event = joined_list keeps.kept in
    let history : IsTrue (is_history (onto es [])) =
    kept_is_a_history (incidents past) keeps.kept keeps.prefix in
    let a : Around q es = around q es (keeps.decided d q moved) in
    let decided : IsDecidedInOrder q a.before a.later =
    kept_in_order (incidents past) keeps.kept q a.before a.later keeps.prefix a.split in
    record {
      started = started_in q a.before a.later es a.split decided.started;
      each = λ e r.
          let ready = was_ready q e es a.before a.later a.split history decided r in
          let answered : HasStoodBy from past e q =
          said_is_answered from past e q only (kept_says q e empty_state (incidents past) keeps.kept keeps.prefix
          ready) in
          record {
            prepared = said_told e (from.over e) q (life_of e past) (keeps_numbers from past e h) answered;
            answered = answered;
          };
    }
