-- Answers of two devices to one attempt give the same state in either order.
use Rattle.std.proofs.Common.{◌≡◌, ◌≢◌, ℕ, List, length, refl, sym, ◌∙◌, ap, subst, Bool, true, false, not, ◌&&◌, inl}
use Rattle.std.proofs.Common.{inr, nat_eq, nat_le, Option, None, Some}
use Rattle.std.specs.Prelude.{IsTrue, if◌then◌else◌, option_and_then}
use Rattle.std.specs.List.{list_all}
use Rattle.std.specs.Option.{option_map_or}
use Rattle.cue_exchange.specs.declared.attempt.Answer.{Answer}
use Rattle.cue_exchange.specs.declared.attempt.Answer.TheVariants as answer
use Rattle.cue_exchange.specs.declared.attempt.Reason.TheVariants.{Abort}
use Rattle.cue_exchange.specs.declared.attempt.Stage.{Stage}
use Rattle.cue_exchange.specs.declared.attempt.Stage.TheVariants.{Cancelling}
use Rattle.cue_exchange.specs.declared.attempt.DeviceAnswer.{DeviceAnswer}
use Rattle.cue_exchange.specs.declared.attempt.Attempt.{Attempt}
use Rattle.cue_exchange.specs.declared.limits.TheConstants.{MAX_LIVE}
use Rattle.cue_exchange.specs.Answers.{is_excused, is_preparing, some_waits, device_answer, with_answer, enters}
use Rattle.cue_exchange.specs.Answers.{answers_on_entry, devices_of}
use Rattle.cue_exchange.specs.Live.{attempt_of, has_number, distinct, are_live, is_attempt, pairwise, goes_before}
use Rattle.cue_exchange.specs.Steps.{answers_as, moves_to, after_answer, after_move, without_ended}
use Rattle.cue_core.specs.declared.command.Code.TheVariants as code
use Rattle.cue_core.specs.declared.command.AnswerKind.{AnswerKind}
use Rattle.cue_core.specs.State.{ShowState, with_live, is_state}
use Rattle.cue_core.specs.Steps.{after_events, after_last_answer}
use Rattle.cue_core.specs.Judge.{Judgement, refused_with, on_answer_to, on_answer_in}
use Rattle.cue_core.specs.Answers.{Said, is_made, is_answer_made, after_said, AnswersCommute}
use Rattle.cue_core.proofs.lists.ConditionLemmas.{both, same_number, number_sym}
use Rattle.cue_core.proofs.live.FindingLemmas.{rising, rising-changed, found-changed, found_has}
use Rattle.cue_core.proofs.live.FindingLemmas.{attempt_of-without_ended, if_open}
use Rattle.cue_core.proofs.live.ChangeLemmas.{given_number, moved_number, answered_both, moved_excused, moved_over}
use Rattle.cue_core.proofs.live.ChangeLemmas.{asked_anew, unexcused, settled_open, device_answer-other}
use Rattle.cue_core.proofs.live.ChangeLemmas.{device_answer-entered, waiting_some}
use Rattle.cue_core.proofs.verdicts.CellLemmas.{comes, comes_made, answer_judged, device_found, cell_at, Falls, falls}
use Rattle.cue_core.proofs.verdicts.CellLemmas.{Ends}
use Rattle.cue_core.proofs.verdicts.CellLemmas.{ends, asked_again, Stays, Readies, Excuses, Aborts, Prepares}
use Rattle.cue_core.proofs.verdicts.CellLemmas.{ready_stays}
use Rattle.cue_core.proofs.verdicts.CellLemmas.{excused_stays, prepares}
use Rattle.cue_core.proofs.rules.RuleLemmas.{rules_of}
use Rattle.cue_core.proofs.rules.SoundLemmas.{attempt_rules, sound_of}

abbrev says : ℕ → AnswerKind → ℕ → ℕ → Said
says from kind d q = record { from = from; kind = kind; device = d; number = q }

-- an answer to q that is judged by the table: the device is one of the attempt
pub record Heard (s : ShowState) (q : ℕ) (a : Attempt) : Type 0 where
  pub from : ℕ
  pub kind : AnswerKind
  pub given : DeviceAnswer
  pub comes : IsTrue (comes s (says from kind given.device q))
  pub answered : device_answer a.answers given.device ≡ Some given

module _ (s : ShowState) (q : ℕ) (a : Attempt) (rises : IsTrue (rising s.live))
    (apart : IsTrue (distinct (devices_of a.answers))) (here : attempt_of s.live q ≡ Some a) where
  -- what the answer says
  abbrev said : Heard s q a → Said
  said r = says r.from r.kind r.given.device q

  -- the state after the answer
  abbrev heard : ShowState → Heard s q a → ShowState
  heard z r = after_said z (said r)

  -- the cell of the answer
  abbrev cell : Heard s q a → Judgement
  cell r = on_answer_in r.kind q r.given a.stage r.given.answer

  -- the devices of the two answers differ
  abbrev Differ : Heard s q a → Heard s q a → Type 0
  Differ r t = nat_eq r.given.device t.given.device ≡ false

  -- what the answer makes
  abbrev Closes : Heard s q a → Type 0
  Closes r = Ends q r.given r.given.answer (cell r)

  abbrev GoesOn : Heard s q a → Type 0
  GoesOn r = Stays q r.given (cell r)

  abbrev Stands : Heard s q a → Type 0
  Stands r = Readies r.kind q r.given r.given.answer (cell r)

  abbrev LetsOff : Heard s q a → Type 0
  LetsOff r = Excuses r.kind q r.given r.given.answer (cell r)

  abbrev GivesUp : Heard s q a → Type 0
  GivesUp r = Aborts r.kind q r.given r.given.answer (cell r)

  -- the attempts as the preparation is given up
  abbrev given_up : List Attempt
  given_up = after_move q (Cancelling Abort) s.live

  first_is : (r : Heard s q a) → heard s r ≡ after_events s (cell r).1
  first_is r = ap (λ (j : Judgement). after_events s j.1) (cell_at s (said r) a r.given r.comes here r.answered)

  second_is : (r : Heard s q a) (l : List Attempt) (b : Attempt) (x : DeviceAnswer) → attempt_of l q ≡ Some b
      → device_answer b.answers r.given.device ≡ Some x
      → heard (with_live s l) r ≡ after_events (with_live s l) (on_answer_in r.kind q x b.stage x.answer).1
  second_is r l b x e g = ap (λ (j : Judgement). after_events (with_live s l) j.1)
      (cell_at (with_live s l) (said r) b x r.comes e g)

  -- the attempt, once the device of an answer has answered
  answered_here : (r : Heard s q a) (x : Answer)
      → attempt_of (after_answer q r.given.device x s.live) q ≡ Some (answers_as r.given.device x a)
  answered_here r x = found-changed q (answers_as r.given.device x) (given_number r.given.device x) s.live a here

  -- the device of the other answer is as it was
  other_answered : (r t : Heard s q a) (x : Answer) → Differ r t
      → device_answer (with_answer r.given.device x a.answers) t.given.device ≡ Some t.given
  other_answered r t x n = device_answer-other r.given.device t.given.device x a.answers n ∙ t.answered

  -- the first answer, and then the second, where both are last answers
  ends_then : (r t : Heard s q a) → Differ r t → (u : Closes r) (v : Closes t)
      → heard (heard s r) t ≡ after_last_answer s q
      (after_answer q t.given.device v.last (after_answer q r.given.device u.last s.live))
  ends_then r t n u v =
      let d : ℕ = r.given.device in
      let l : List Attempt = after_answer q d u.last s.live in
      let b : Attempt = answers_as d u.last a in
      let eb : attempt_of l q ≡ Some b = answered_here r u.last in
      let gb : device_answer b.answers t.given.device ≡ Some t.given = other_answered r t u.last n in
      let first : heard s r ≡ with_live s l = first_is r
      ∙ (u.makes s ∙ settled_open s q l b (rising-changed q (answers_as d u.last) (given_number d u.last) s.live
      rises) eb (waiting_some t.given.device t.given b.answers gb v.waited)) in
      ap (λ z. heard z t) first ∙ (second_is t l b t.given eb gb ∙ v.makes (with_live s l))

  -- where the attempt goes on after each
  stays_then : (r t : Heard s q a) → Differ r t → (u : GoesOn r) (v : GoesOn t)
      → heard (heard s r) t ≡ with_live s
      (after_answer q t.given.device v.last (after_answer q r.given.device u.last s.live))
  stays_then r t n u v =
      let l : List Attempt = after_answer q r.given.device u.last s.live in
      ap (λ z. heard z t) (first_is r ∙ u.makes s)
      ∙ (second_is t l (answers_as r.given.device u.last a) t.given (answered_here r u.last)
      (other_answered r t u.last n) ∙ v.makes (with_live s l))

  -- where the attempt goes on after the first, and the second aborts
  stays_then_abort : (r t : Heard s q a) → Differ r t → (u : GoesOn r) → GivesUp t
      → heard (heard s r) t ≡ after_last_answer s q
      (after_answer q t.given.device answer.Failed
      (after_move q (Cancelling Abort) (after_answer q r.given.device u.last s.live)))
  stays_then_abort r t n u v =
      let l : List Attempt = after_answer q r.given.device u.last s.live in
      ap (λ z. heard z t) (first_is r ∙ u.makes s)
      ∙ (second_is t l (answers_as r.given.device u.last a) t.given (answered_here r u.last)
      (other_answered r t u.last n) ∙ v.makes (with_live s l))

  -- the attempt as it is given up, and the device of an answer has failed
  abbrev failed_one : Heard s q a → Attempt
  failed_one r = answers_as r.given.device answer.Failed (moves_to (Cancelling Abort) a)

  abbrev failed_all : Heard s q a → List Attempt
  failed_all r = after_answer q r.given.device answer.Failed given_up

  failed_here : (r : Heard s q a) → attempt_of (failed_all r) q ≡ Some (failed_one r)
  failed_here r = found-changed q (answers_as r.given.device answer.Failed) (given_number r.given.device answer.Failed)
      given_up (moves_to (Cancelling Abort) a)
      (found-changed q (moves_to (Cancelling Abort)) (moved_number (Cancelling Abort)) s.live a here)

  failed_rise : (r : Heard s q a) → IsTrue (rising (failed_all r))
  failed_rise r = rising-changed q (answers_as r.given.device answer.Failed) (given_number r.given.device answer.Failed)
      given_up (rising-changed q (moves_to (Cancelling Abort)) (moved_number (Cancelling Abort)) s.live rises)

  -- where the first aborts, and the second is too late
  abort_then_ready : (r t : Heard s q a) → GivesUp r → Stands t
      → heard (heard s r) t ≡ after_last_answer s q (failed_all r)
  abort_then_ready r t u v =
      let gone : attempt_of (without_ended q (failed_all r)) q ≡ if_open (failed_one r) =
      attempt_of-without_ended q (failed_all r) (failed_rise r)
      ∙ ap (λ o. option_and_then if_open o) (failed_here r) in
      ap (λ z. heard z t) (first_is r ∙ u.makes s)
      ∙ (ap (λ (j : Judgement). after_events (after_last_answer s q (failed_all r)) j.1)
      (answer_judged (after_last_answer s q (failed_all r)) (said t) (if_open (failed_one r)) t.comes gone)
      ∙ at (failed_all r) (failed_one r) refl (some_waits (failed_one r).answers))
    where
      told : (l : List Attempt) (b : Attempt) (o : Option DeviceAnswer)
          → after_events (after_last_answer s q l)
          (option_map_or (λ w. on_answer_in t.kind b.seq w (Cancelling Abort) w.answer) o (refused_with code.NotPart)).1
          ≡ after_last_answer s q l
      told l b None = refl
      told l b (Some z) = v.late (after_last_answer s q l) b.seq z

      staged : (l : List Attempt) (b : Attempt) → b.stage ≡ Cancelling Abort
          → after_events (after_last_answer s q l) (on_answer_to t.kind t.given.device b).1 ≡ after_last_answer s q l
      staged l b p = ap (λ (stage : Stage). after_events (after_last_answer s q l)
          (option_map_or (λ w. on_answer_in t.kind b.seq w stage w.answer) (device_answer b.answers t.given.device)
          (refused_with code.NotPart)).1) p ∙ told l b (device_answer b.answers t.given.device)

      at : (l : List Attempt) (b : Attempt) → b.stage ≡ Cancelling Abort → (w : Bool)
          → after_events (after_last_answer s q l)
          (option_map_or (on_answer_to t.kind t.given.device) (if w then Some b else None) (refused_with code.Stale)).1
          ≡ after_last_answer s q l
      at l b p true = staged l b p
      at l b p false = refl

  -- where the first aborts, and the second is the device's last answer
  abort_then : (r t : Heard s q a) → Differ r t → GivesUp r → IsTrue (not (is_excused t.given.answer))
      → (v : Ends q t.given answer.Waiting (on_answer_in t.kind q
      (asked_again t.given) (Cancelling Abort) answer.Waiting))
      → heard (heard s r) t ≡ after_last_answer s q (after_answer q t.given.device v.last (failed_all r))
  abort_then r t n u k v =
      let e : ℕ = t.given.device in
      let l : List Attempt = failed_all r in
      let b : Attempt = failed_one r in
      let fresh : enters (Cancelling Abort) t.given ≡ asked_again t.given =
      ap (λ (x : Answer). record t.given { answer = x }) (asked_anew (Cancelling Abort) t.given.answer k) in
      let gb : device_answer b.answers e ≡ Some (asked_again t.given) =
      device_answer-other r.given.device e answer.Failed (answers_on_entry (Cancelling Abort) a.answers) n
      ∙ (device_answer-entered (Cancelling Abort) e t.given a.answers t.answered
      ∙ ap (λ (x : DeviceAnswer). Some x) fresh) in
      let first : heard s r ≡ with_live s l = first_is r
      ∙ (u.makes s ∙ settled_open s q l b (failed_rise r) (failed_here r)
      (waiting_some e (asked_again t.given) b.answers gb refl)) in
      ap (λ z. heard z t) first ∙ (second_is t l b (asked_again t.given) (failed_here r) gb ∙ v.makes (with_live s l))

  -- ---- either order

  abbrev EitherOrder : Heard s q a → Heard s q a → Type 0
  EitherOrder r t = heard (heard s r) t ≡ heard (heard s t) r

  ending : (r t : Heard s q a) → Differ r t → Differ t r → Closes r → Closes t → EitherOrder r t
  ending r t n o u v = ends_then r t n u v
      ∙ (ap (λ (l : List Attempt). after_last_answer s q l)
      (answered_both q t.given.device r.given.device v.last u.last s.live o) ∙ sym (ends_then t r o v u))

  staying : (r t : Heard s q a) → Differ r t → Differ t r → GoesOn r → GoesOn t → EitherOrder r t
  staying r t n o u v = stays_then r t n u v
      ∙ (ap (λ (l : List Attempt). with_live s l) (answered_both q t.given.device r.given.device v.last u.last s.live o)
      ∙ sym (stays_then t r o v u))

  -- a device stands by, and another gives the attempt up
  ready_and_abort : (r t : Heard s q a) → Differ r t → Stands r → GivesUp t → EitherOrder r t
  ready_and_abort r t n u v =
      stays_then_abort r t n (ready_stays u) v
      ∙ (ap (λ (l : List Attempt). after_last_answer s q (after_answer q t.given.device answer.Failed l))
      (moved_over q r.given.device (Cancelling Abort) answer.Ready a s.live rises here refl
      (unexcused r.given a.answers apart r.answered u.asked))
      ∙ sym (abort_then_ready t r v u))

  -- a device is excused, and another gives the attempt up
  excuse_and_abort : (r t : Heard s q a) → Differ r t → Differ t r → LetsOff r → GivesUp t → EitherOrder r t
  excuse_and_abort r t n o u v =
      stays_then_abort r t n (excused_stays u) v
      ∙ (ap (λ (l : List Attempt). after_last_answer s q (after_answer q t.given.device answer.Failed l))
      (moved_excused q r.given.device Abort s.live)
      ∙ (ap (λ (l : List Attempt). after_last_answer s q l)
      (answered_both q t.given.device r.given.device answer.Failed answer.LetGo given_up o)
      ∙ sym (abort_then t r o v u.asked (record { last = answer.LetGo; waited = refl; makes = u.later }))))

  -- each gives the attempt up
  aborting : (r t : Heard s q a) → Differ r t → Differ t r → GivesUp r → GivesUp t → EitherOrder r t
  aborting r t n o u v =
      abort_then r t n u v.asked (record { last = answer.Failed; waited = refl; makes = v.later })
      ∙ (ap (λ (l : List Attempt). after_last_answer s q l)
      (answered_both q t.given.device r.given.device answer.Failed answer.Failed given_up o)
      ∙ sym (abort_then t r o v u.asked (record { last = answer.Failed; waited = refl; makes = u.later })))

  preparing : (r t : Heard s q a) → Differ r t → Differ t r → Prepares r.kind q r.given r.given.answer (cell r)
      → Prepares t.kind q t.given t.given.answer (cell t) → EitherOrder r t
  preparing r t n o (inl u) (inl v) = staying r t n o (ready_stays u) (ready_stays v)
  preparing r t n o (inl u) (inr (inl v)) = staying r t n o (ready_stays u) (excused_stays v)
  preparing r t n o (inl u) (inr (inr v)) = ready_and_abort r t n u v
  preparing r t n o (inr (inl u)) (inl v) = staying r t n o (excused_stays u) (ready_stays v)
  preparing r t n o (inr (inl u)) (inr (inl v)) = staying r t n o (excused_stays u) (excused_stays v)
  preparing r t n o (inr (inl u)) (inr (inr v)) = excuse_and_abort r t n o u v
  preparing r t n o (inr (inr u)) (inl v) = sym (ready_and_abort t r o v u)
  preparing r t n o (inr (inr u)) (inr (inl v)) = sym (excuse_and_abort t r o n v u)
  preparing r t n o (inr (inr u)) (inr (inr v)) = aborting r t n o u v

  either_order : (r t : Heard s q a) → Differ r t → Differ t r → IsTrue (is_made (cell r).0)
      → IsTrue (is_made (cell t).0) → EitherOrder r t
  either_order r t n o hr ht = at (is_preparing a.stage) refl
    where
      at : (b : Bool) → is_preparing a.stage ≡ b → EitherOrder r t
      at true p = preparing r t n o (prepares r.kind q r.given a.stage r.given.answer p hr)
          (prepares t.kind q t.given a.stage t.given.answer p ht)
      at false p = ending r t n o (ends r.kind q r.given a.stage r.given.answer p hr)
          (ends t.kind q t.given a.stage t.given.answer p ht)

unlike : (d e : ℕ) → d ≢ e → nat_eq d e ≡ false
unlike d e n = at (nat_eq d e) refl
  where
    at : (b : Bool) → nat_eq d e ≡ b → b ≡ false
    at true k = absurd (n (same_number d e k))
    at false k = refl

-- no device stands twice in a live attempt
apart_in : (s : ShowState) (q : ℕ) (a : Attempt) → IsTrue (is_state s) → attempt_of s.live q ≡ Some a
    → IsTrue (distinct (devices_of a.answers))
apart_in s q a h e =
    let live : IsTrue (are_live s.live) = (rules_of s h).live in
    let each : IsTrue (list_all is_attempt s.live) =
    (both (list_all is_attempt s.live) (pairwise goes_before s.live)
    (both (nat_le (length s.live) MAX_LIVE) (list_all is_attempt s.live && pairwise goes_before s.live) live).1).0
    in
    (attempt_rules a (found_has is_attempt (has_number q) s.live a each e)).distinct

-- the two answers name one attempt
one_number : (s : ShowState) (f g : ℕ) (k m : AnswerKind) (d e q : ℕ) → IsTrue (is_state s) → d ≢ e
    → IsTrue (is_answer_made s (says f k d q)) → IsTrue (is_answer_made s (says g m e q))
    → after_said (after_said s (says f k d q)) (says g m e q) ≡ after_said (after_said s (says g m e q))
    (says f k d q)
one_number s f g k m d e q h n hr ht =
    let r : Said = says f k d q in
    let t : Said = says g m e q in
    let u : Falls s r = falls s r hr in
    let v : Falls s t = falls s t ht in
    let a : Attempt = u.attempt in
    let cr : IsTrue (comes s r) = comes_made s r hr in
    let ct : IsTrue (comes s t) = comes_made s t ht in
    let made_here : Judgement → Type 0 = λ j. IsTrue (is_made j.0) in
    let same : v.attempt ≡ a = some_same v.attempt a (sym v.found ∙ u.found) in
    let ge : device_answer a.answers e ≡ Some v.given = ap (λ (b : Attempt). device_answer b.answers e) (sym same)
    ∙ v.answered in
    let pd : u.given.device ≡ d = device_found d a.answers u.given u.answered in
    let pe : v.given.device ≡ e = device_found e a.answers v.given ge in
    let x : Heard s q a = record {
      from = f;
      kind = k;
      given = u.given;
      comes = subst
          (λ (c : ℕ). IsTrue (comes s (says f k c q))) (sym pd) cr;
      answered =
          ap (λ (c : ℕ). device_answer a.answers c) pd ∙ u.answered;
    } in
    let y : Heard s q a = record {
      from = g;
      kind = m;
      given = v.given;
      comes = subst
          (λ (c : ℕ). IsTrue (comes s (says g m c q))) (sym pe) ct;
      answered =
          ap (λ (c : ℕ). device_answer a.answers c) pe ∙ ge;
    } in
    let apart : nat_eq u.given.device v.given.device ≡ false = ap (λ (c : ℕ). nat_eq c v.given.device) pd
    ∙ (ap (λ (c : ℕ). nat_eq d c) pe ∙ unlike d e n) in
    let apart_too : nat_eq v.given.device u.given.device ≡ false = number_sym v.given.device u.given.device ∙ apart in
    let both_ways : after_said (after_said s (says f k u.given.device q)) (says g m v.given.device q) ≡ after_said
    (after_said s (says g m v.given.device q)) (says f k u.given.device q) =
    either_order s q a (sound_of s h).rises (apart_in s q a h u.found) u.found x y apart apart_too
    (subst made_here (cell_at s r a u.given cr u.found u.answered) hr)
    (subst made_here (cell_at s t a v.given ct u.found ge) ht) in
    subst (λ (c : ℕ). after_said (after_said s (says f k d q)) (says g m c q) ≡ after_said
    (after_said s (says g m c q)) (says f k d q)) pe
    (subst (λ (c : ℕ). after_said (after_said s (says f k c q)) (says g m v.given.device q) ≡ after_said
    (after_said s (says g m v.given.device q)) (says f k c q)) pd both_ways)
  where
    some_same : (x y : Attempt) → Some x ≡ Some y → x ≡ y
    some_same x y p = cc

pub answers-commute : AnswersCommute
answers-commute s r t h same n hr ht =
    let P : ℕ → Type 0 = λ q. IsTrue (is_answer_made s (says t.from t.kind t.device q))
    → after_said (after_said s r) (says t.from t.kind t.device q) ≡ after_said
    (after_said s (says t.from t.kind t.device q)) r in
    subst P same (one_number s r.from t.from r.kind t.kind r.device t.device r.number h n hr) ht
