-- A datagram that is an answer of a device to the order of the present stage ends a waiting.
use Rattle.std.proofs.Common.{◌≡◌, ◌⊎◌, inl, inr, ℕ, Bool, true, false, List, [], ◌∷◌, filter, nat_le, refl, sym, ap}
use Rattle.std.proofs.Common.{◌∙◌, subst, true≢false, Option, Some, IsTrue}
use Rattle.std.specs.Prelude.{if◌then◌else◌, is_some}
use Rattle.cue_show.specs.Devices.{is_among}
use Rattle.cue_show.specs.Show.{has_device, port_of}
use Rattle.cue_exchange.specs.declared.attempt.Answer.TheVariants as answer
use Rattle.cue_exchange.specs.declared.attempt.DeviceAnswer.{DeviceAnswer}
use Rattle.cue_exchange.specs.declared.attempt.Stage.{Stage}
use Rattle.cue_exchange.specs.declared.attempt.Stage.TheVariants.{Preparing, Decided, Cancelling}
use Rattle.cue_exchange.specs.declared.attempt.Answer.{Answer as ExchangeAnswer}
use Rattle.cue_exchange.specs.declared.attempt.Attempt.{Attempt}
use Rattle.cue_exchange.specs.declared.attempt.Reason.TheVariants.{Abort as Aborted}
use Rattle.cue_exchange.specs.Answers.{devices_of, is_waiting, waits}
use Rattle.cue_exchange.specs.Live.{attempt_of, has_number, is_number}
use Rattle.cue_exchange.specs.Steps.{after_answer, answers_as, moves_to}
use Rattle.cue_core.specs.declared.command.AnswerKind.{AnswerKind}
use Rattle.cue_core.specs.declared.command.AnswerKind.TheVariants as answer_kind
use Rattle.cue_core.specs.declared.command.Command.TheVariants.{Reply}
use Rattle.cue_core.specs.declared.event.Event.{Event}
use Rattle.cue_core.specs.declared.event.Event.TheVariants as event
use Rattle.cue_core.specs.Judge.{made_by, on_answer, on_answer_in}
use Rattle.cue_core.specs.InTurn.{Step, step_of}
use Rattle.cue_core.specs.State.{ShowState, is_state}
use Rattle.cue_core.specs.Steps.{acceptable, after, after_events, are_acceptable}
use Rattle.cue_core.proofs.lists.ConditionLemmas.{both, join, same_number}
use Rattle.cue_core.proofs.live.FindingLemmas.{found-changed, found_passes}
use Rattle.cue_core.proofs.rules.RuleLemmas.{is_state-after}
use Rattle.cue_engine.specs.Given.{are_too_many, datagram, given_of}
use Rattle.cue_engine.specs.Heard.{carried}
use Rattle.cue_engine.proofs.HistoryLemmas.{input-ok}
use Rattle.cue_device.specs.declared.words.Answer.{Answer}
use Rattle.cue_device.specs.Datagrams.{answer_address, answer_text}
use Rattle.cue_device.specs.Hearing.{answered_for}
use Rattle.cue_stage.specs.Waiting.{awaited, is_settled, EndsAWaiting, is_abort, is_answer_in, outcome_with}
use Rattle.cue_stage.specs.Going.{AnAnswerEndsAWaiting, kind_of}
use Rattle.cue_stage.proofs.AnsweredLemmas.{Cell, an_answer_ends, cell_of, sound_found}
use Rattle.cue_stage.proofs.AwaitedLemmas.{awaited_in, concludes, event_waits, gone_without, waits_without}
use Rattle.cue_stage.proofs.ReadAnswerLemmas.{answer_makes}

-- one command with few events is not too much
few_late : (address : List ℕ) (st : Step) (q : ℕ) (x : DeviceAnswer) (r : _) (b : Bool) → x.optional ≡ b
    → are_too_many (carried address (record st {
      events = (on_answer_in answer_kind.Abort q x (Cancelling r) answer.Waiting).1;
    } ∷ []) ∷ []) ≡ false
few_late address st q x r true e = rw e refl
few_late address st q x r false e = rw e refl

few_events : (address : List ℕ) (st : Step) (kind : AnswerKind) (q : ℕ) (x : DeviceAnswer) (stage : Stage)
    → IsTrue (is_answer_in stage kind)
    → are_too_many (carried address (record st { events = (on_answer_in kind q x stage answer.Waiting).1 } ∷ []) ∷ [])
    ≡ false
few_events address st answer_kind.Complete q x Decided h = refl
few_events address st answer_kind.Abort q x Decided h = refl
few_events address st answer_kind.Cancelled q x (Cancelling r) h = refl
few_events address st answer_kind.Abort q x (Cancelling r) h = few_late address st q x r x.optional refl
few_events address st kind q x Preparing h = absurd (true≢false (sym h))
few_events address st answer_kind.StandingBy q x Decided h = absurd (true≢false (sym h))
few_events address st answer_kind.StandingBy q x (Cancelling r) h = absurd (true≢false (sym h))
few_events address st answer_kind.Cancelled q x Decided h = absurd (true≢false (sym h))
few_events address st answer_kind.Complete q x (Cancelling r) h = absurd (true≢false (sym h))

few_so : (address : List ℕ) (st : Step) (es : List Event) → es ≡ st.events
    → are_too_many (carried address (record st { events = es } ∷ []) ∷ []) ≡ false
    → are_too_many (carried address (st ∷ []) ∷ []) ≡ false
few_so address st es e h =
    subst (λ (xs : List Event). are_too_many (carried address (record st { events = xs } ∷ []) ∷ []) ≡ false) e h

pub numbered_so : (s : ShowState) (a : Attempt) (q : ℕ) → IsTrue (is_state s) → attempt_of s.live q ≡ Some a
    → IsTrue (is_number q)
numbered_so s a q h found =
    subst (λ (n : ℕ). IsTrue (is_number n)) (same_number a.seq q (found_passes (has_number q) s.live a found))
    (sound_found s q a h found).number

pub an_answer_ends_a_waiting : AnAnswerEndsAWaiting
an_answer_ends_a_waiting s a now from d x h found ok m port =
    let q : ℕ = answered_for x in
    let kind : AnswerKind = kind_of x in
    let cell : Cell s a from d q kind = cell_of s a from d q kind h found m port in
    let st : Step = step_of s now from (Reply kind d q) in
    let few : are_too_many (carried (answer_address d x) (st ∷ []) ∷ []) ≡ false =
    few_so (answer_address d x) st (on_answer_in kind q cell.given a.stage answer.Waiting).1 (ap (λ j. j.1) (sym cell.is))
    (few_events (answer_address d x) st kind q cell.given a.stage ok) in
    let there : IsTrue (has_device s.show d) = ap (λ (o : Option ℕ). is_some o) port in
    subst (λ (es : List Event). EndsAWaiting q d (outcome_with (is_abort kind) a) s (after_events s es))
    (sym (answer_makes s now from d x h there (numbered_so s a q h found) few)) (an_answer_ends s a from d q kind h found ok m port)

-- ---- an answer to a STANDBY

-- the answer is one to a STANDBY
abbrev pub is_early_answer : AnswerKind → Bool
is_early_answer answer_kind.StandingBy = true
is_early_answer answer_kind.Abort = true
is_early_answer _ = false

few_abort : (address : List ℕ) (st : Step) (q : ℕ) (x : DeviceAnswer) (b : Bool) → x.optional ≡ b
    → are_too_many (carried address (record st {
      events = (on_answer_in answer_kind.Abort q x Preparing answer.Waiting).1;
    } ∷ []) ∷ []) ≡ false
few_abort address st q x true e = rw e refl
few_abort address st q x false e = rw e refl

few_early : (address : List ℕ) (st : Step) (kind : AnswerKind) (q : ℕ) (x : DeviceAnswer)
    → IsTrue (is_early_answer kind)
    → are_too_many (carried address (record st { events = (on_answer_in kind q x Preparing answer.Waiting).1 } ∷ [])
    ∷ []) ≡ false
few_early address st answer_kind.StandingBy q x h = refl
few_early address st answer_kind.Abort q x h = few_abort address st q x x.optional refl
few_early address st answer_kind.Complete q x h = absurd (true≢false (sym h))
few_early address st answer_kind.Cancelled q x h = absurd (true≢false (sym h))

-- the device is awaited no more, or the attempt is given up
abbrev pub Heard : ℕ → ℕ → ShowState → Type 0
Heard q d new = (IsTrue (is_among d (awaited new q)) → ⊥) ⊎ IsTrue (is_settled new q)

gone_now : (q d : ℕ) (x : ExchangeAnswer) (s new : ShowState) (a : Attempt) → is_waiting x ≡ false
    → attempt_of s.live q ≡ Some a → new.live ≡ after_answer q d x s.live → Heard q d new
gone_now q d x s new a good found is =
    let now : attempt_of new.live q ≡ Some (answers_as d x a) =
    ap (λ live. attempt_of live q) is ∙ found-changed q (answers_as d x) (λ b. refl) s.live a found in
    inl (λ m. gone_without d (devices_of (filter waits a.answers))
    (subst (λ (ds : List ℕ). IsTrue (is_among d ds)) (ap awaited_in now ∙ waits_without d x a.answers good) m))

given_up : (q d : ℕ) (s : ShowState) (a : Attempt) → IsTrue (is_state s)
    → IsTrue (are_acceptable s (event.Cancel q Aborted ∷ event.Failed q d ∷ [])) → attempt_of s.live q ≡ Some a
    → IsTrue (nat_le q s.last_seq) → IsTrue (is_settled (after_events s (event.Cancel q Aborted ∷ event.Failed q d ∷ [])) q)
given_up q d s a h ok found n =
    let e : Event = event.Cancel q Aborted in
    let p = both (acceptable s e) (are_acceptable (after s e) (event.Failed q d ∷ [])) ok in
    let r = both (acceptable (after s e) (event.Failed q d)) true p.1 in
    let now : attempt_of (after s e).live q ≡ Some (moves_to (Cancelling Aborted) a) =
    found-changed q (moves_to (Cancelling Aborted)) (λ b. refl) s.live a found in
    let settled : IsTrue (is_settled (after s e) q) =
    join (nat_le q s.last_seq) _ n (ap concludes now) in
    (event_waits (after s e) (event.Failed q d) q (is_state-after s e h p.0) r.0 settled).settled

heard_cell : (q d : ℕ) (kind : AnswerKind) (x : DeviceAnswer) (s : ShowState) (a : Attempt) → IsTrue (is_state s)
    → IsTrue (is_early_answer kind) → x.device ≡ d → attempt_of s.live q ≡ Some a → IsTrue (nat_le q s.last_seq)
    → IsTrue (are_acceptable s (on_answer_in kind q x Preparing answer.Waiting).1)
    → Heard q d (after_events s (on_answer_in kind q x Preparing answer.Waiting).1)
heard_cell q d answer_kind.StandingBy x s a h k who found n ok =
    subst (λ (e : ℕ). Heard q e (after_events s (event.Ready q x.device ∷ []))) who
    (gone_now q x.device answer.Ready s (after_events s (event.Ready q x.device ∷ [])) a refl found refl)
heard_cell q d answer_kind.Abort x s a h k who found n ok = by x.optional ok
  where
    by : (b : Bool) → IsTrue (are_acceptable s (if b then made_by (event.Excuse q x.device ∷ [])
        else made_by (event.Cancel q Aborted ∷ event.Failed q x.device ∷ [])).1)
        → Heard q d (after_events s (if b then made_by (event.Excuse q x.device ∷ [])
        else made_by (event.Cancel q Aborted ∷ event.Failed q x.device ∷ [])).1)
    by true m =
        subst (λ (e : ℕ). Heard q e (after_events s (event.Excuse q x.device ∷ []))) who
        (gone_now q x.device answer.Excused s (after_events s (event.Excuse q x.device ∷ [])) a refl found refl)
    by false m = inr (given_up q x.device s a h m found n)
heard_cell q d answer_kind.Complete x s a h k who found n ok = absurd (true≢false (sym k))
heard_cell q d answer_kind.Cancelled x s a h k who found n ok = absurd (true≢false (sym k))

-- An answer of a device to a STANDBY: the device is awaited no more, or the attempt is given up.
pub an_early_answer_is_heard : (s : ShowState) (a : Attempt) (now from d : ℕ) (x : Answer) → IsTrue (is_state s)
    → attempt_of s.live (answered_for x) ≡ Some a → a.stage ≡ Preparing → IsTrue (is_early_answer (kind_of x))
    → IsTrue (is_among d (awaited s (answered_for x))) → port_of s.show d ≡ Some from
    → IsTrue (nat_le (answered_for x) s.last_seq)
    → Heard (answered_for x) d (after_events s (given_of s now (datagram from (answer_text d x))).batch)
an_early_answer_is_heard s a now from d x h found early ok m port n =
    let q : ℕ = answered_for x in
    let kind : AnswerKind = kind_of x in
    let cell : Cell s a from d q kind = cell_of s a from d q kind h found m port in
    let st : Step = step_of s now from (Reply kind d q) in
    let is : (on_answer_in kind q cell.given Preparing answer.Waiting).1 ≡ (on_answer s from kind d q).1 =
    ap (λ (t : Stage). (on_answer_in kind q cell.given t answer.Waiting).1) (sym early) ∙ ap (λ j. j.1) (sym cell.is) in
    let few : are_too_many (carried (answer_address d x) (st ∷ []) ∷ []) ≡ false =
    few_so (answer_address d x) st (on_answer_in kind q cell.given Preparing answer.Waiting).1 is
    (few_early (answer_address d x) st kind q cell.given ok) in
    let there : IsTrue (has_device s.show d) = ap (λ (o : Option ℕ). is_some o) port in
    let batch : (on_answer_in kind q cell.given Preparing answer.Waiting).1
    ≡ (given_of s now (datagram from (answer_text d x))).batch =
    is ∙ sym (answer_makes s now from d x h there (numbered_so s a q h found) few) in
    subst (λ (es : List Event). Heard q d (after_events s es)) batch
    (heard_cell q d kind cell.given s a h ok cell.who found n
    (subst (λ (es : List Event). IsTrue (are_acceptable s es)) (sym batch)
    (input-ok s now (datagram from (answer_text d x)) h)))
