-- What an answer to a live attempt makes, by the table.
use Rattle.std.proofs.Common.{◌≡◌, ℕ, List, [], ◌∷◌, refl, ◌∙◌, ap, subst, Bool, true, false, not, ◌&&◌, ◌⊎◌, inl, inr}
use Rattle.std.proofs.Common.{nat_eq, nat_lt, Option, None, Some}
use Rattle.std.specs.Prelude.{IsTrue, if◌then◌else◌}
use Rattle.std.specs.Option.{option_map_or}
use Rattle.cue_show.specs.Show.{has_device}
use Rattle.cue_exchange.specs.declared.attempt.Answer.{Answer}
use Rattle.cue_exchange.specs.declared.attempt.Answer.TheVariants as answer
use Rattle.cue_exchange.specs.declared.attempt.Reason.TheVariants.{Abort}
use Rattle.cue_exchange.specs.declared.attempt.Stage.{Stage}
use Rattle.cue_exchange.specs.declared.attempt.Stage.TheVariants.{Preparing, Decided, Cancelling}
use Rattle.cue_exchange.specs.declared.attempt.DeviceAnswer.{DeviceAnswer}
use Rattle.cue_exchange.specs.declared.attempt.Attempt.{Attempt}
use Rattle.cue_exchange.specs.Answers.{is_waiting, is_excused, is_preparing, device_answer}
use Rattle.cue_exchange.specs.Live.{attempt_of, has_number}
use Rattle.cue_exchange.specs.Steps.{after_answer, after_move}
use Rattle.cue_core.specs.declared.event.Event.TheVariants as event
use Rattle.cue_core.specs.declared.command.Code.TheVariants as code
use Rattle.cue_core.specs.declared.command.AnswerKind.{AnswerKind}
use Rattle.cue_core.specs.declared.command.AnswerKind.TheVariants as answer_kind
use Rattle.cue_core.specs.State.{ShowState, with_live}
use Rattle.cue_core.specs.Steps.{after_events, after_last_answer}
use Rattle.cue_core.specs.Judge.{Judgement, made_by, refused_with, abort_early, on_answer, on_answer_to, on_answer_in}
use Rattle.cue_core.specs.Judge.{is_from_another}
use Rattle.cue_core.specs.Answers.{Said, is_made, is_answer_made}
use Rattle.cue_core.proofs.lists.ConditionLemmas.{both, same_number}
use Rattle.cue_core.proofs.live.FindingLemmas.{found_passes}

-- ---- the cell of an answer

-- the answer is for a device of the table, from its port, with a number that was drawn
abbrev pub comes : ShowState → Said → Bool
comes s r = has_device s.show r.device && (not (is_from_another s r.device r.from) && not (nat_lt s.last_seq r.number))

pub comes_made : (s : ShowState) (r : Said) → IsTrue (is_answer_made s r) → IsTrue (comes s r)
comes_made s r h = at (has_device s.show r.device) (is_from_another s r.device r.from) (nat_lt s.last_seq r.number) h
  where
    at : (b p l : Bool) → IsTrue
        (is_made (if not b then refused_with code.NoMethod else if p then refused_with code.WrongPort else if l then
        refused_with
        code.Early else option_map_or (on_answer_to r.kind r.device) (attempt_of s.live r.number)
        (refused_with code.Stale)).0) → IsTrue (b && (not p && not l))
    at false p l k = cc
    at true true l k = cc
    at true false true k = cc
    at true false false k = refl

pub answer_judged : (s : ShowState) (r : Said) (o : Option Attempt) → IsTrue (comes s r)
    → attempt_of s.live r.number ≡ o
    → on_answer s r.from r.kind r.device r.number ≡ option_map_or (on_answer_to r.kind r.device) o
    (refused_with code.Stale)
answer_judged s r o h e =
    let p = both (has_device s.show r.device)
    (not (is_from_another s r.device r.from) && not (nat_lt s.last_seq r.number)) h in
    let q = both (not (is_from_another s r.device r.from)) (not (nat_lt s.last_seq r.number)) p.1 in
    at (has_device s.show r.device) (is_from_another s r.device r.from) (nat_lt s.last_seq r.number) p.0 q.0 q.1
  where
    at : (b f l : Bool) → IsTrue b → IsTrue (not f) → IsTrue (not l)
        → (if not b then refused_with code.NoMethod else if f then refused_with code.WrongPort else if l then
        refused_with code.Early
        else option_map_or (on_answer_to r.kind r.device) (attempt_of s.live r.number) (refused_with code.Stale))
        ≡ option_map_or (on_answer_to r.kind r.device) o (refused_with code.Stale)
    at true false false j k m = ap (λ x. option_map_or (on_answer_to r.kind r.device) x (refused_with code.Stale)) e
    at true false true j k m = cc
    at true true l j k m = cc
    at false f l j k m = cc

-- the device that is found is the one that was looked for
pub device_found : (d : ℕ) (xs : List DeviceAnswer) (x : DeviceAnswer) → device_answer xs d ≡ Some x → x.device ≡ d
device_found d xs x g = same_number x.device d (found_passes (λ y. nat_eq y.device d) xs x g)

-- the cell that the answer falls into
pub cell_at : (s : ShowState) (r : Said) (a : Attempt) (x : DeviceAnswer) → IsTrue (comes s r)
    → attempt_of s.live r.number ≡ Some a → device_answer a.answers r.device ≡ Some x
    → on_answer s r.from r.kind r.device r.number ≡ on_answer_in r.kind r.number x a.stage x.answer
cell_at s r a x h e g =
    answer_judged s r (Some a) h e
    ∙ (ap (λ o. option_map_or (λ w. on_answer_in r.kind a.seq w a.stage w.answer) o (refused_with code.NotPart)) g
    ∙ ap (λ n. on_answer_in r.kind n x a.stage x.answer)
    (same_number a.seq r.number (found_passes (has_number r.number) s.live a e)))

-- where it is made, there is an attempt with the device
pub record Falls (s : ShowState) (r : Said) : Type 0 where
  pub attempt : Attempt
  pub found : attempt_of s.live r.number ≡ Some attempt
  pub given : DeviceAnswer
  pub answered : device_answer attempt.answers r.device ≡ Some given

pub falls : (s : ShowState) (r : Said) → IsTrue (is_answer_made s r) → Falls s r
falls s r h = at (attempt_of s.live r.number) refl (let P : Judgement
    → Type 0 = λ j. IsTrue (is_made j.0) in subst P
    (answer_judged s r (attempt_of s.live r.number) (comes_made s r h) refl)
    h)
  where
    within : (a : Attempt) (o : Option DeviceAnswer) → device_answer a.answers r.device ≡ o
        → attempt_of s.live r.number ≡ Some a
        → IsTrue (is_made (option_map_or (λ w. on_answer_in r.kind a.seq w a.stage w.answer) o
        (refused_with code.NotPart)).0)
        → Falls s r
    within a None g e k = absurd (cc)
    within a (Some x) g e k = record { attempt = a; found = e; given = x; answered = g }

    at : (o : Option Attempt) → attempt_of s.live r.number ≡ o
        → IsTrue (is_made (option_map_or (on_answer_to r.kind r.device) o (refused_with code.Stale)).0) → Falls s r
    at None e k = absurd (cc)
    at (Some a) e k = within a (device_answer a.answers r.device) refl e k

-- ---- an attempt that is carried out or given up

-- the answer is the device's last answer
pub record Ends (q : ℕ) (x : DeviceAnswer) (given : Answer) (judgement_of : Judgement) : Type 0 where
  pub last : Answer
  pub waited : IsTrue (is_waiting given)
  pub makes : (s : ShowState)
      → after_events s judgement_of.1 ≡ after_last_answer s q (after_answer q x.device last s.live)

ends_late : (q : ℕ) (x : DeviceAnswer) (b : Bool)
    → Ends q x answer.Waiting
    (if b then made_by (event.LetGo q x.device ∷ []) else made_by (event.Failed q x.device ∷ []))
ends_late q x true = record { last = answer.LetGo; waited = refl; makes = λ s. refl }
ends_late q x false = record { last = answer.Failed; waited = refl; makes = λ s. refl }

pub ends : (kind : AnswerKind) (q : ℕ) (x : DeviceAnswer) (stage : Stage) (given : Answer) → is_preparing stage ≡ false
    → IsTrue (is_made (on_answer_in kind q x stage given).0) → Ends q x given (on_answer_in kind q x stage given)
ends kind q x Preparing given p h = absurd (cc)
ends answer_kind.StandingBy q x Decided answer.Waiting p h = absurd (cc)
ends answer_kind.StandingBy q x Decided _ p h = absurd (cc)
ends answer_kind.StandingBy q x (Cancelling r) answer.Waiting p h = absurd (cc)
ends answer_kind.StandingBy q x (Cancelling r) _ p h = absurd (cc)
ends answer_kind.Complete q x Decided answer.Waiting p h =
    record { last = answer.Done; waited = refl; makes = λ s. refl }
ends answer_kind.Complete q x Decided _ p h = absurd (cc)
ends answer_kind.Complete q x (Cancelling r) answer.Waiting p h = absurd (cc)
ends answer_kind.Complete q x (Cancelling r) _ p h = absurd (cc)
ends answer_kind.Cancelled q x Decided answer.Waiting p h = absurd (cc)
ends answer_kind.Cancelled q x Decided _ p h = absurd (cc)
ends answer_kind.Cancelled q x (Cancelling r) answer.Waiting p h =
    record { last = answer.LetGo; waited = refl; makes = λ s. refl }
ends answer_kind.Cancelled q x (Cancelling r) _ p h = absurd (cc)
ends answer_kind.Abort q x Decided answer.Waiting p h =
    record { last = answer.Failed; waited = refl; makes = λ s. refl }
ends answer_kind.Abort q x Decided _ p h = absurd (cc)
ends answer_kind.Abort q x (Cancelling r) answer.Waiting p h = ends_late q x x.optional
ends answer_kind.Abort q x (Cancelling r) _ p h = absurd (cc)

-- ---- an attempt that is Preparing

-- the device, asked again
abbrev pub asked_again : DeviceAnswer → DeviceAnswer
asked_again x = record x { answer = answer.Waiting }

-- the attempt goes on, and the device has answered
pub record Stays (q : ℕ) (x : DeviceAnswer) (judgement_of : Judgement) : Type 0 where
  pub last : Answer
  pub makes : (s : ShowState) → after_events s judgement_of.1 ≡ with_live s (after_answer q x.device last s.live)

-- the device stands by, and is too late once the attempt is given up
pub record Readies (kind : AnswerKind) (q : ℕ) (x : DeviceAnswer) (given : Answer) (judgement_of : Judgement) : Type 0
  where
    pub makes : (s : ShowState)
        → after_events s judgement_of.1 ≡ with_live s (after_answer q x.device answer.Ready s.live)
    pub asked : IsTrue (not (is_excused given))
    pub late : (s : ShowState) (n : ℕ) (w : DeviceAnswer)
        → after_events s (on_answer_in kind n w (Cancelling Abort) w.answer).1 ≡ s

-- the device is excused, and is let go of once the attempt is given up
pub record Excuses (kind : AnswerKind) (q : ℕ) (x : DeviceAnswer) (given : Answer) (judgement_of : Judgement) : Type 0
  where
    pub makes : (s : ShowState)
        → after_events s judgement_of.1 ≡ with_live s (after_answer q x.device answer.Excused s.live)
    pub asked : IsTrue (not (is_excused given))
    pub later : (s : ShowState) → after_events s
        (on_answer_in kind q (asked_again x) (Cancelling Abort) answer.Waiting).1
        ≡ after_last_answer s q (after_answer q x.device answer.LetGo s.live)

-- the attempt is given up, and the device has failed, as it has where the attempt was given up before
pub record Aborts (kind : AnswerKind) (q : ℕ) (x : DeviceAnswer) (given : Answer) (judgement_of : Judgement) : Type 0
  where
    pub makes : (s : ShowState)
        → after_events s judgement_of.1 ≡ after_last_answer s q
        (after_answer q x.device answer.Failed (after_move q (Cancelling Abort) s.live))
    pub asked : IsTrue (not (is_excused given))
    pub later : (s : ShowState) → after_events s
        (on_answer_in kind q (asked_again x) (Cancelling Abort) answer.Waiting).1
        ≡ after_last_answer s q (after_answer q x.device answer.Failed s.live)

-- what an answer may make
abbrev pub Prepares : AnswerKind → ℕ → DeviceAnswer → Answer → Judgement → Type 0
Prepares kind q x given judgement_of = Readies kind q x given judgement_of
    ⊎ (Excuses kind q x given judgement_of ⊎ Aborts kind q x given judgement_of)

abbrev pub ready_stays : {kind : AnswerKind} {q : ℕ} {x : DeviceAnswer} {given : Answer} {judgement_of : Judgement}
    → Readies kind q x given judgement_of → Stays q x judgement_of
ready_stays u = record { last = answer.Ready; makes = u.makes }

abbrev pub excused_stays : {kind : AnswerKind} {q : ℕ} {x : DeviceAnswer} {given : Answer} {judgement_of : Judgement}
    → Excuses kind q x given judgement_of → Stays q x judgement_of
excused_stays u = record { last = answer.Excused; makes = u.makes }

too_late : (s : ShowState) (n : ℕ) (w : DeviceAnswer) (x : Answer)
    → after_events s (on_answer_in answer_kind.StandingBy n w (Cancelling Abort) x).1 ≡ s
too_late s n w answer.Waiting = refl
too_late s n w _ = refl

-- an abort excuses an optional device, and gives up for a required one
cannot : (q : ℕ) (x : DeviceAnswer) (given : Answer) → IsTrue (not (is_excused given)) → (b : Bool) → x.optional ≡ b
    → Prepares answer_kind.Abort q x given (abort_early q x)
cannot q x given n true e = inr (inl (record { makes = λ s. rw e refl; asked = n; later = λ s. rw e refl }))
cannot q x given n false e = inr (inr (record { makes = λ s. rw e refl; asked = n; later = λ s. rw e refl }))

pub prepares : (kind : AnswerKind) (q : ℕ) (x : DeviceAnswer) (stage : Stage) (given : Answer)
    → is_preparing stage ≡ true → IsTrue (is_made (on_answer_in kind q x stage given).0)
    → Prepares kind q x given (on_answer_in kind q x stage given)
prepares kind q x Decided given p h = absurd (cc)
prepares kind q x (Cancelling r) given p h = absurd (cc)
prepares answer_kind.StandingBy q x Preparing answer.Waiting p h =
    inl (record { makes = λ s. refl; asked = refl; late = λ s n w. too_late s n w w.answer })
prepares answer_kind.StandingBy q x Preparing _ p h = absurd (cc)
prepares answer_kind.Complete q x Preparing answer.Waiting p h = absurd (cc)
prepares answer_kind.Complete q x Preparing _ p h = absurd (cc)
prepares answer_kind.Cancelled q x Preparing answer.Waiting p h = absurd (cc)
prepares answer_kind.Cancelled q x Preparing _ p h = absurd (cc)
prepares answer_kind.Abort q x Preparing answer.Waiting p h = cannot q x answer.Waiting refl x.optional refl
prepares answer_kind.Abort q x Preparing answer.Ready p h = cannot q x answer.Ready refl x.optional refl
prepares answer_kind.Abort q x Preparing _ p h = absurd (cc)
