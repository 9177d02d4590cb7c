-- A settled attempt that is live before some events and not after them has ended with one of them.
use Rattle.std.proofs.Common.{◌≡◌, inl, inr, ℕ, Bool, true, false, ◌||◌, List, [], ◌∷◌, nat_eq, nat_le, refl, sym, ap}
use Rattle.std.proofs.Common.{◌∙◌, subst, Option, None, Some, IsTrue}
use Rattle.std.specs.Prelude.{if◌then◌else◌}
use Rattle.std.specs.List.{list_any}
use Rattle.std.specs.Option.{option_map}
use Rattle.cue_exchange.specs.declared.attempt.Attempt.{Attempt}
use Rattle.cue_exchange.specs.declared.attempt.Outcome.{Outcome}
use Rattle.cue_exchange.specs.Answers.{is_concluding, some_waits, with_answer}
use Rattle.cue_exchange.specs.Live.{attempt_of}
use Rattle.cue_exchange.specs.Steps.{answers_as, holds, outcome_of, waits_in}
use Rattle.cue_core.specs.declared.event.Event.{Event}
use Rattle.cue_core.specs.declared.event.Event.TheVariants as event
use Rattle.cue_core.specs.State.{ShowState, is_state}
use Rattle.cue_core.specs.Steps.{acceptable, after, after_events, are_acceptable, ended_as}
use Rattle.cue_core.proofs.lists.ConditionLemmas.{both, same_number}
use Rattle.cue_core.proofs.live.FindingLemmas.{found}
use Rattle.cue_core.proofs.rules.AtCueLemmas.{rises_of}
use Rattle.cue_core.proofs.rules.RuleLemmas.{is_state-after, rules_of}
use Rattle.cue_stage.specs.Waiting.{EndsWithin, has_failed, is_failed, is_failure_of, is_settled, outcome_with}
use Rattle.cue_stage.proofs.AwaitedLemmas.{GoesOn, HasAnswered, concludes, event_goes_on, event_waits, settled_parts}
use Rattle.cue_stage.proofs.AnsweredLemmas.{ends_so, failed_with, sound_distinct, sound_found}

-- ---- after the end

-- what has ended has no device that fails
no_failure : (s : ShowState) (e : Event) (q : ℕ) → IsTrue (is_state s) → IsTrue (acceptable s e)
    → attempt_of s.live q ≡ None → is_failure_of q e ≡ false
no_failure s (event.Failed p d) q h ok none = by (nat_eq p q) refl
  where
    by : (b : Bool) → nat_eq p q ≡ b → b ≡ false
    by true e =
        let at = found q (waits_in is_concluding d) s.live (rises_of s.live (rules_of s h).live)
        (subst (λ (n : ℕ). IsTrue (holds n (waits_in is_concluding d) s.live)) (same_number p q e) ok) in
        let clash : Some at.0 ≡ None = sym at.1 ∙ none in absurd cc
    by false e = refl
no_failure s _ q h ok none = refl

still_none : (q : ℕ) (f : Bool) (old new : ShowState) → GoesOn q f old new → attempt_of old.live q ≡ None
    → attempt_of new.live q ≡ None
still_none q f old new (inl w) none = w.same ∙ none
still_none q f old new (inr w) none = let clash : Some w.attempt ≡ None = sym w.by.found ∙ none in absurd cc

no_failures : (s : ShowState) (es : List Event) (q : ℕ) → IsTrue (is_state s) → IsTrue (are_acceptable s es)
    → IsTrue (is_settled s q) → attempt_of s.live q ≡ None → list_any (is_failure_of q) es ≡ false
no_failures s [] q h ok c none = refl
no_failures s (e ∷ es) q h ok c none =
    let p = both (acceptable s e) (are_acceptable (after s e) es) ok in
    let parts = settled_parts s q c in
    let goes = event_goes_on s e q h p.0 parts.0 parts.1 in
    rw (no_failure s e q h p.0 none)
    (no_failures (after s e) es q (is_state-after s e h p.0) p.1 (event_waits s e q h p.0 c).settled
    (still_none q (is_failure_of q e) s (after s e) goes none))

-- ---- the end

swap : (a b c : Bool) → (a || (b || c)) ≡ ((b || a) || c)
swap true true c = refl
swap true false c = refl
swap false true c = refl
swap false false c = refl

concluding : (s : ShowState) (q : ℕ) (a : Attempt) → IsTrue (is_settled s q) → attempt_of s.live q ≡ Some a
    → IsTrue (is_concluding a.stage)
concluding s q a c e = subst (λ (o : Option Attempt). IsTrue (concludes o)) e (settled_parts s q c).1

one_before : (q : ℕ) (a b : Attempt) (s : ShowState) (e : Event) (es : List Event)
    → outcome_with (list_any (is_failure_of q) es) b ≡ outcome_with (list_any (is_failure_of q) (e ∷ es)) a
    → EndsWithin q b (after s e) es → EndsWithin q a s (e ∷ es)
one_before q a b s e es same w = record {
  before = e ∷ w.before;
  last = w.last;
  later = w.later;
  split = ap (λ xs. e ∷ xs) w.split;
  ended = record {
    gone = w.ended.gone;
    last = w.ended.last
        ∙ ap (λ (o : Outcome). Some (record { seq = q; outcome = o })) same;
  };
}

-- with one answer more the outcome is the same, if that is reckoned with
fails_more : (fails given : Bool) (a b : Attempt) → b.stage ≡ a.stage → has_failed b ≡ (given || has_failed a)
    → outcome_with fails b ≡ outcome_with (given || fails) a
fails_more fails given a b stage failed = rw (stage, failed, swap fails given (has_failed a)) refl

-- it has ended with one of them; complete, if it was given and no device of it has failed
pub what_ends_ends_so : (s : ShowState) (es : List Event) (a : Attempt) (q : ℕ) → IsTrue (is_state s)
    → IsTrue (are_acceptable s es) → IsTrue (is_settled s q) → attempt_of s.live q ≡ Some a
    → attempt_of (after_events s es).live q ≡ None → EndsWithin q a s es
what_ends_ends_so s [] a q h ok c here gone = let clash : Some a ≡ None = sym here ∙ gone in absurd cc
what_ends_ends_so s (e ∷ es) a q h ok c here gone =
    by (λ b at. what_ends_ends_so (after s e) es b q next p.1 settled at gone)
    (event_goes_on s e q h p.0 parts.0 parts.1)
  where
    p : IsTrue (acceptable s e) × IsTrue (are_acceptable (after s e) es)
    p = both (acceptable s e) (are_acceptable (after s e) es) ok

    parts : IsTrue (nat_le q s.last_seq) × IsTrue (concludes (attempt_of s.live q))
    parts = settled_parts s q c

    next : IsTrue (is_state (after s e))
    next = is_state-after s e h p.0

    settled : IsTrue (is_settled (after s e) q)
    settled = (event_waits s e q h p.0 c).settled

    answered : ((b : Attempt) → attempt_of (after s e).live q ≡ Some b → EndsWithin q b (after s e) es)
        → (w : HasAnswered q (is_failure_of q e) s (after s e)) → w.attempt ≡ a → (b : Bool)
        → some_waits (with_answer w.device w.given w.attempt.answers) ≡ b → EndsWithin q a s (e ∷ es)
    answered rest w is true more =
        let now : Attempt = answers_as w.device w.given w.attempt in
        let at : attempt_of (after s e).live q ≡ Some now = w.by.makes ∙ ap (λ b. if b then Some now else None) more in
        let sound = sound_found s q w.attempt h w.by.found in
        let failed : has_failed now ≡ (is_failed w.given || has_failed w.attempt) =
        failed_with w.device w.given w.attempt.answers (sound_distinct w.attempt sound) w.by.awaits in
        one_before q a now s e es
        (fails_more (list_any (is_failure_of q) es) (is_failed w.given) w.attempt now refl failed
        ∙ ap (λ b. outcome_with (b || list_any (is_failure_of q) es) w.attempt) w.fails
        ∙ ap (outcome_with (list_any (is_failure_of q) (e ∷ es))) is)
        (rest now at)
    answered rest w is false none =
        let now : Attempt = answers_as w.device w.given w.attempt in
        let over : attempt_of (after s e).live q ≡ None = w.by.makes ∙ ap (λ b. if b then Some now else None) none in
        let quiet : list_any (is_failure_of q) es ≡ false = no_failures (after s e) es q next p.1 settled over in
        let sound = sound_found s q w.attempt h w.by.found in
        let how : outcome_of now ≡ outcome_with (is_failed w.given) w.attempt =
        ends_so w.by (concluding s q w.attempt c w.by.found) sound none in
        let same : outcome_with (is_failed w.given) w.attempt ≡ outcome_with (list_any (is_failure_of q) (e ∷ es)) a =
        ap (λ b. outcome_with b w.attempt) (w.fails ∙ sym (or_none (is_failure_of q e))
        ∙ ap (λ b. is_failure_of q e || b) (sym quiet))
        ∙ ap (outcome_with (list_any (is_failure_of q) (e ∷ es))) is in
        record {
          before = [];
          last = e;
          later = es;
          split = refl;
          ended = record {
            gone = over;
            last = w.by.ended
                ∙ ap (λ b. ended_as q (option_map outcome_of (if b then None else Some now)) s.ended) none
                ∙ ap (λ (o : Outcome). Some (record { seq = q; outcome = o })) (how ∙ same);
          };
        }
      where
        or_none : (b : Bool) → (b || false) ≡ b
        or_none true = refl
        or_none false = refl

    by : ((b : Attempt) → attempt_of (after s e).live q ≡ Some b → EndsWithin q b (after s e) es)
        → GoesOn q (is_failure_of q e) s (after s e) → EndsWithin q a s (e ∷ es)
    by rest (inl w) =
        one_before q a a s e es (ap (λ b. outcome_with (b || list_any (is_failure_of q) es) a) (sym w.quiet))
        (rest a (w.same ∙ here))
    by rest (inr w) = answered rest w (same_one (sym w.by.found ∙ here)) _ refl
      where
        same_one : {x y : Attempt} → Some x ≡ Some y → x ≡ y
        same_one e = cc
