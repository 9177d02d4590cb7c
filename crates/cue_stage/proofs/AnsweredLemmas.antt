-- An answer to the order of the present stage ends a waiting.
use Rattle.std.proofs.Common.{◌≡◌, ℕ, ◌+◌, Bool, true, false, not, ◌&&◌, ◌||◌, List, [], ◌∷◌, length, filter, cond}
use Rattle.std.proofs.Common.{nat_eq, nat_le, nat_lt, refl, sym, ap, ◌∙◌, subst, arith, true≢false, Option, None, Some}
use Rattle.std.proofs.Common.{IsTrue}
use Rattle.std.specs.Prelude.{if◌then◌else◌, is_some}
use Rattle.std.specs.List.{list_all, list_any}
use Rattle.std.specs.Option.{option_map, option_map_or}
use Rattle.std.proofs.lemmas.Bool.Decides.{nat_tests}
use Rattle.cue_show.specs.Devices.{distinct, is_among}
use Rattle.cue_show.specs.Show.{port_of}
use Rattle.cue_exchange.specs.declared.attempt.Answer.{Answer}
use Rattle.cue_exchange.specs.declared.attempt.Answer.TheVariants as answer
use Rattle.cue_exchange.specs.declared.attempt.Attempt.{Attempt}
use Rattle.cue_exchange.specs.declared.attempt.DeviceAnswer.{DeviceAnswer}
use Rattle.cue_exchange.specs.declared.attempt.Outcome.TheVariants as outcome
use Rattle.cue_exchange.specs.declared.attempt.Stage.{Stage}
use Rattle.cue_exchange.specs.declared.attempt.Stage.TheVariants.{Preparing, Decided, Cancelling}
use Rattle.cue_exchange.specs.Answers.{all_have_done, answers_with, device_answer, devices_of, has_done, has_required}
use Rattle.cue_exchange.specs.Answers.{is_cancelling, is_concluding, is_excused, is_done, is_known_in, is_required}
use Rattle.cue_exchange.specs.Answers.{is_waiting, may_be_in, some_waits, waits, with_answer}
use Rattle.cue_exchange.specs.Live.{attempt_of, has_number, is_attempt}
use Rattle.cue_exchange.specs.Steps.{after_answer, answers_as, outcome_of}
use Rattle.cue_exchange.proofs.LiveLemmas.{Sound, attempts_of, is_sound-of_attempt, sound_of}
use Rattle.cue_core.specs.declared.command.AnswerKind.{AnswerKind}
use Rattle.cue_core.specs.declared.command.AnswerKind.TheVariants as answer_kind
use Rattle.cue_core.specs.Answers.{Said}
use Rattle.cue_core.specs.Judge.{on_answer, on_answer_in}
use Rattle.cue_core.specs.State.{ShowState, is_state}
use Rattle.cue_core.specs.Steps.{after_events, after_last_answer, ended_as}
use Rattle.cue_core.proofs.lists.ConditionLemmas.{both, same_number}
use Rattle.cue_core.proofs.live.FindingLemmas.{found_has, found_passes}
use Rattle.cue_core.proofs.rules.RuleLemmas.{rules_of}
use Rattle.cue_core.proofs.verdicts.CellLemmas.{cell_at, comes, device_found}
use Rattle.cue_stage.specs.Waiting.{EndsAWaiting, awaited, has_failed, is_abort, is_answer_in, is_failed, outcome_with}
use Rattle.cue_stage.specs.Waiting.{without}
use Rattle.cue_stage.proofs.AwaitedLemmas.{Answers, answered_waits, answers_now, awaited_in, awaited_open}

-- ---- a device that is awaited

pub among_waiting : (d : ℕ) (xs : List DeviceAnswer) → IsTrue (is_among d (devices_of (filter waits xs)))
    → IsTrue (is_among d (devices_of xs))
among_waiting d [] h = h
among_waiting d (x ∷ xs) h = by (waits x) (nat_eq x.device d) h (among_waiting d xs)
  where
    either : (b : Bool) → IsTrue (b || is_among d (devices_of (filter waits xs)))
        → (IsTrue (is_among d (devices_of (filter waits xs))) → IsTrue (is_among d (devices_of xs)))
        → IsTrue (b || is_among d (devices_of xs))
    either true k f = refl
    either false k f = f k

    late : (b c : Bool) → IsTrue c → IsTrue (b || c)
    late true c k = refl
    late false c k = k

    by : (w b : Bool) → IsTrue (is_among d (devices_of (cond w (x ∷ filter waits xs) (filter waits xs))))
        → (IsTrue (is_among d (devices_of (filter waits xs))) → IsTrue (is_among d (devices_of xs)))
        → IsTrue (nat_eq x.device d || is_among d (devices_of xs))
    by true b k f = either (nat_eq x.device d) k f
    by false b k f = late (nat_eq x.device d) (is_among d (devices_of xs)) (f k)

-- the device is found, and it waits
record IsWaiting (d : ℕ) (xs : List DeviceAnswer) : Type 0 where
  given : DeviceAnswer
  found : device_answer xs d ≡ Some given
  waits : given.answer ≡ answer.Waiting

is_that : (x : Answer) → IsTrue (is_waiting x) → x ≡ answer.Waiting
is_that answer.Waiting h = refl
is_that _ h = absurd (true≢false (sym h))

contrary : {A : Type 0} (b : Bool) → IsTrue b → IsTrue (not b) → A
contrary true h k = absurd (true≢false (sym k))
contrary false h k = absurd (true≢false (sym h))

is_waiting_one : (d : ℕ) (xs : List DeviceAnswer) → IsTrue (distinct (devices_of xs))
    → IsTrue (is_among d (devices_of (filter waits xs))) → IsWaiting d xs
is_waiting_one d [] u h = absurd (true≢false (sym h))
is_waiting_one d (x ∷ xs) u h =
    let p = both (not (is_among x.device (devices_of xs))) (distinct (devices_of xs)) u in
    by (nat_eq x.device d) refl (waits x) refl p.0 h (is_waiting_one d xs p.1)
  where
    by : (b : Bool) → nat_eq x.device d ≡ b → (w : Bool) → waits x ≡ w → IsTrue (not (is_among x.device (devices_of xs)))
        → IsTrue (is_among d (devices_of (cond w (x ∷ filter waits xs) (filter waits xs))))
        → (IsTrue (is_among d (devices_of (filter waits xs))) → IsWaiting d xs) → IsWaiting d (x ∷ xs)
    by true e true w a k f = record { given = x; found = rw e refl; waits = is_that x.answer w }
    by true e false w a k f =
        contrary (is_among x.device (devices_of xs))
        (subst (λ (n : ℕ). IsTrue (is_among n (devices_of xs))) (sym (same_number x.device d e)) (among_waiting d xs k)) a
    by false e w is a k f =
        let r = f (later w k) in
        record { given = r.given; found = rw e r.found; waits = r.waits }
      where
        later : (v : Bool) → IsTrue (is_among d (devices_of (cond v (x ∷ filter waits xs) (filter waits xs))))
            → IsTrue (is_among d (devices_of (filter waits xs)))
        later true m = subst (λ (c : Bool). IsTrue (c || is_among d (devices_of (filter waits xs)))) e m
        later false m = m

-- ---- one less

none_without : (d : ℕ) (ds : List ℕ) → is_among d ds ≡ false → without d ds ≡ ds
none_without d [] h = refl
none_without d (x ∷ ds) h = by (nat_eq x d) h (none_without d ds)
  where
    by : (b : Bool) → (b || is_among d ds) ≡ false → (is_among d ds ≡ false → without d ds ≡ ds)
        → cond (not b) (x ∷ without d ds) (without d ds) ≡ x ∷ ds
    by true k f = absurd (true≢false k)
    by false k f = ap (λ l. x ∷ l) (f k)

not_so : (b : Bool) → (IsTrue b → ⊥) → b ≡ false
not_so true f = absurd (f refl)
not_so false f = refl

-- who stands once does not stand in the rest
once : (d : ℕ) (x : DeviceAnswer) (xs : List DeviceAnswer) → IsTrue (not (is_among x.device (devices_of xs)))
    → IsTrue (nat_eq x.device d) → is_among d (devices_of xs) ≡ false
once d x xs a e = not_so (is_among d (devices_of xs))
    (λ k. contrary (is_among x.device (devices_of xs))
    (subst (λ (n : ℕ). IsTrue (is_among n (devices_of xs))) (sym (same_number x.device d e)) k) a)

one_gone : (d : ℕ) (xs : List DeviceAnswer) → IsTrue (distinct (devices_of xs))
    → IsTrue (is_among d (devices_of (filter waits xs)))
    → length (devices_of (filter waits xs)) ≡ length (without d (devices_of (filter waits xs))) + 1
one_gone d [] u h = absurd (true≢false (sym h))
one_gone d (x ∷ xs) u h =
    let p = both (not (is_among x.device (devices_of xs))) (distinct (devices_of xs)) u in
    by (nat_eq x.device d) refl (waits x) p.0 h (one_gone d xs p.1)
  where
    rest : List ℕ
    rest = devices_of (filter waits xs)

    absent : IsTrue (nat_eq x.device d) → IsTrue (not (is_among x.device (devices_of xs))) → is_among d rest ≡ false
    absent e a = not_so (is_among d rest)
        (λ k. contrary (is_among d (devices_of xs)) (among_waiting d xs k)
        (rw (once d x xs a e) refl))

    by : (b : Bool) → nat_eq x.device d ≡ b → (w : Bool) → IsTrue (not (is_among x.device (devices_of xs)))
        → IsTrue (is_among d (devices_of (cond w (x ∷ filter waits xs) (filter waits xs))))
        → (IsTrue (is_among d rest) → length rest ≡ length (without d rest) + 1)
        → length (devices_of (cond w (x ∷ filter waits xs) (filter waits xs)))
        ≡ length (without d (devices_of (cond w (x ∷ filter waits xs) (filter waits xs)))) + 1
    by true e true a k f = rw (e, none_without d rest (absent e a)) (omega arith)
    by true e false a k f = f k
    by false e true a k f =
        let n : length rest ≡ length (without d rest) + 1 =
        f (subst (λ (c : Bool). IsTrue (c || is_among d rest)) e k) in
        rw e (omega arith)
    by false e false a k f = f k

-- ---- what the answer makes

-- the device has answered so for good
record Gives (kind : AnswerKind) (q : ℕ) (x : DeviceAnswer) (stage : Stage) : Type 0 where
  given : Answer
  good : is_waiting given ≡ false
  known : IsTrue (is_known_in stage given)
  own : is_excused given ≡ false
  makes : (s : ShowState)
      → after_events s (on_answer_in kind q x stage answer.Waiting).1
      ≡ after_last_answer s q (after_answer q x.device given s.live)
  failed : is_cancelling stage ≡ false → is_failed given ≡ is_abort kind

gives_late : (q : ℕ) (x : DeviceAnswer) (r : _) (b : Bool) → x.optional ≡ b
    → Gives answer_kind.Abort q x (Cancelling r)
gives_late q x r true e = record {
  given = answer.LetGo;
  good = refl;
  known = refl;
  own = refl;
  makes = λ s. rw e refl;
  failed = λ k. absurd (true≢false k);
}
gives_late q x r false e = record {
  given = answer.Failed;
  good = refl;
  known = refl;
  own = refl;
  makes = λ s. rw e refl;
  failed = λ k. absurd (true≢false k);
}

gives : (kind : AnswerKind) (q : ℕ) (x : DeviceAnswer) (stage : Stage) → IsTrue (is_answer_in stage kind)
    → Gives kind q x stage
gives answer_kind.Complete q x Decided h =
    record { given = answer.Done; good = refl; known = refl; own = refl; makes = λ s. refl; failed = λ k. refl }
gives answer_kind.Abort q x Decided h =
    record { given = answer.Failed; good = refl; known = refl; own = refl; makes = λ s. refl; failed = λ k. refl }
gives answer_kind.Cancelled q x (Cancelling r) h = record {
  given = answer.LetGo;
  good = refl;
  known = refl;
  own = refl;
  makes = λ s. refl;
  failed = λ k. absurd (true≢false k);
}
gives answer_kind.Abort q x (Cancelling r) h = gives_late q x r x.optional refl
gives kind q x Preparing h = absurd (true≢false (sym h))
gives answer_kind.StandingBy q x Decided h = absurd (true≢false (sym h))
gives answer_kind.StandingBy q x (Cancelling r) h = absurd (true≢false (sym h))
gives answer_kind.Cancelled q x Decided h = absurd (true≢false (sym h))
gives answer_kind.Complete q x (Cancelling r) h = absurd (true≢false (sym h))

-- ---- how the attempt ends with the last one

abbrev pub any_failed : List DeviceAnswer → Bool
any_failed xs = list_any (λ x. is_failed x.answer) xs

done_unless_failed : (x : Answer) → IsTrue (is_known_in Decided x) → is_waiting x ≡ false
    → (is_done x || is_excused x) ≡ not (is_failed x)
done_unless_failed answer.Waiting k w = absurd (true≢false w)
done_unless_failed answer.Ready k w = absurd (true≢false (sym k))
done_unless_failed answer.Done k w = refl
done_unless_failed answer.LetGo k w = absurd (true≢false (sym k))
done_unless_failed answer.Failed k w = refl
done_unless_failed answer.Excused k w = refl

not_either : (b c r s : Bool) → b ≡ not c → r ≡ not s → (b && r) ≡ not (c || s)
not_either b true r s e f = rw e refl
not_either b false r s e f = rw e f

none_left : (b c : Bool) → (b || c) ≡ false → (b ≡ false) × (c ≡ false)
none_left true c h = absurd (true≢false h)
none_left false c h = (refl, h)

-- where nobody waits any more, all have done it unless one has failed
all_done : (d : ℕ) (x : Answer) (ys : List DeviceAnswer) → is_done x ≡ not (is_failed x) → is_excused x ≡ false
    → IsTrue (list_all (may_be_in Decided) ys) → some_waits (with_answer d x ys) ≡ false
    → all_have_done (with_answer d x ys) ≡ not (any_failed (with_answer d x ys))
all_done d x [] done none ok w = refl
all_done d x (y ∷ ys) done none ok w =
    let p = both (may_be_in Decided y) (list_all (may_be_in Decided) ys) ok in
    let u = none_left (waits (answers_with d x y)) (some_waits (with_answer d x ys)) w in
    not_either (has_done (answers_with d x y)) (is_failed (answers_with d x y).answer) (all_have_done (with_answer d x ys))
    (any_failed (with_answer d x ys))
    (one (nat_eq y.device d) u.0 (both (is_known_in Decided y.answer) (not (is_required y && is_excused y.answer)) p.0).0)
    (all_done d x ys done none p.1 u.1)
  where
    one : (b : Bool) → is_waiting (if b then x else y.answer) ≡ false → IsTrue (is_known_in Decided y.answer)
        → (is_done (if b then x else y.answer) || is_excused (if b then x else y.answer))
        ≡ not (is_failed (if b then x else y.answer))
    one true k m = rw none (or_none (is_done x) ∙ done)
      where
        or_none : (c : Bool) → (c || false) ≡ c
        or_none true = refl
        or_none false = refl
    one false k m = done_unless_failed y.answer m k

-- an answer of a device that is not there changes nothing
not_there : (d : ℕ) (x : Answer) (ys : List DeviceAnswer) → is_among d (devices_of ys) ≡ false
    → any_failed (with_answer d x ys) ≡ any_failed ys
not_there d x [] h = refl
not_there d x (y ∷ ys) h = by (nat_eq y.device d) h (not_there d x ys)
  where
    by : (b : Bool) → (b || is_among d (devices_of ys)) ≡ false
        → (is_among d (devices_of ys) ≡ false → any_failed (with_answer d x ys) ≡ any_failed ys)
        → (is_failed (if b then x else y.answer) || any_failed (with_answer d x ys))
        ≡ (is_failed y.answer || any_failed ys)
    by true k f = absurd (true≢false k)
    by false k f = ap (λ b. is_failed y.answer || b) (f k)

-- who failed, once the device that waits has answered
pub failed_with : (d : ℕ) (x : Answer) (ys : List DeviceAnswer) → IsTrue (distinct (devices_of ys))
    → IsTrue (is_among d (devices_of (filter waits ys)))
    → any_failed (with_answer d x ys) ≡ (is_failed x || any_failed ys)
failed_with d x [] u h = absurd (true≢false (sym h))
failed_with d x (y ∷ ys) u h =
    let p = both (not (is_among y.device (devices_of ys))) (distinct (devices_of ys)) u in
    by (nat_eq y.device d) refl (waits y) refl p.0 h (failed_with d x ys p.1)
  where
    none_fails : (z : Answer) → is_waiting z ≡ true → is_failed z ≡ false
    none_fails answer.Waiting k = refl
    none_fails answer.Ready k = refl
    none_fails answer.Done k = refl
    none_fails answer.LetGo k = refl
    none_fails answer.Failed k = absurd (true≢false (sym k))
    none_fails answer.Excused k = refl

    swap : (a b c : Bool) → (a || (b || c)) ≡ (b || (a || c))
    swap true true c = refl
    swap true false c = refl
    swap false b c = refl

    later : (v : Bool) → nat_eq y.device d ≡ false
        → IsTrue (is_among d (devices_of (cond v (y ∷ filter waits ys) (filter waits ys))))
        → IsTrue (is_among d (devices_of (filter waits ys)))
    later true e m = subst (λ (c : Bool). IsTrue (c || is_among d (devices_of (filter waits ys)))) e m
    later false e m = m

    by : (b : Bool) → nat_eq y.device d ≡ b → (w : Bool) → waits y ≡ w
        → IsTrue (not (is_among y.device (devices_of ys)))
        → IsTrue (is_among d (devices_of (cond w (y ∷ filter waits ys) (filter waits ys))))
        → (IsTrue (is_among d (devices_of (filter waits ys)))
        → any_failed (with_answer d x ys) ≡ (is_failed x || any_failed ys))
        → (is_failed (if b then x else y.answer) || any_failed (with_answer d x ys))
        ≡ (is_failed x || (is_failed y.answer || any_failed ys))
    by true e true w a k f = rw (none_fails y.answer w, not_there d x ys (once d y ys a e)) refl
    by true e false w a k f =
        contrary (is_among y.device (devices_of ys))
        (subst (λ (n : ℕ). IsTrue (is_among n (devices_of ys))) (sym (same_number y.device d e)) (among_waiting d ys k)) a
    by false e w is a k f =
        ap (λ b. is_failed y.answer || b) (f (later w e k)) ∙ swap (is_failed y.answer) (is_failed x) (any_failed ys)

pub none_some : (xs : List DeviceAnswer) → devices_of (filter waits xs) ≡ [] → some_waits xs ≡ false
none_some [] h = refl
none_some (x ∷ xs) h = by (waits x) h (none_some xs)
  where
    by : (b : Bool) → devices_of (cond b (x ∷ filter waits xs) (filter waits xs)) ≡ []
        → (devices_of (filter waits xs) ≡ [] → some_waits xs ≡ false) → (b || some_waits xs) ≡ false
    by true k f = absurd cc
    by false k f = f k

pub sound_distinct : (a : Attempt) → Sound a → IsTrue (distinct (devices_of a.answers))
sound_distinct a sound = (both (has_required a.answers) (distinct (devices_of a.answers)) sound.devices).1

-- how an attempt ends, of which the last device has answered
pub ends_so : {q d : ℕ} {x : Answer} {a : Attempt} {old new : ShowState} → Answers q d x a old new
    → IsTrue (is_concluding a.stage) → Sound a → some_waits (with_answer d x a.answers) ≡ false
    → outcome_of (answers_as d x a) ≡ outcome_with (is_failed x) a
ends_so {d = d} {x = x} {a = a} by late sound w = at a.stage refl
  where
    choose : (b : Bool) → (if not b then outcome.Complete else outcome.Failed)
        ≡ (if b then outcome.Failed else outcome.Complete)
    choose true = refl
    choose false = refl

    or_none : (c : Bool) → (c || false) ≡ c
    or_none true = refl
    or_none false = refl

    done : (z : Answer) → IsTrue (is_known_in Decided z) → is_waiting z ≡ false → is_excused z ≡ false
        → is_done z ≡ not (is_failed z)
    done z k m e = sym (or_none (is_done z)) ∙ (ap (λ b. is_done z || b) (sym e) ∙ done_unless_failed z k m)

    at : (stage : Stage) → a.stage ≡ stage → outcome_of (answers_as d x a) ≡ outcome_with (is_failed x) a
    at Preparing e = absurd (true≢false (sym (subst (λ (t : Stage). IsTrue (is_concluding t)) e late)))
    at (Cancelling r) e = rw e refl
    at Decided e =
        let going : is_cancelling a.stage ≡ false = rw e refl in
        let known : IsTrue (is_known_in Decided x) = subst (λ (t : Stage). IsTrue (is_known_in t x)) e by.known in
        let all : all_have_done (with_answer d x a.answers) ≡ not (any_failed (with_answer d x a.answers)) =
        all_done d x a.answers (done x known by.good by.own) by.own
        (subst (λ (t : Stage). IsTrue (list_all (may_be_in t) a.answers)) e sound.stand) w in
        let who : any_failed (with_answer d x a.answers) ≡ (is_failed x || has_failed a) =
        failed_with d x a.answers (sound_distinct a sound) by.awaits in
        rw (going, all, who) (choose (is_failed x || has_failed a))

-- ---- the law

same_end : (a : Attempt) (x y : Bool) → (is_cancelling a.stage ≡ false → x ≡ y) → outcome_with x a ≡ outcome_with y a
same_end a x y f = by (is_cancelling a.stage) refl
  where
    by : (b : Bool) → is_cancelling a.stage ≡ b
        → (if b then outcome.Cancelled else (if x || has_failed a then outcome.Failed else outcome.Complete))
        ≡ (if b then outcome.Cancelled else (if y || has_failed a then outcome.Failed else outcome.Complete))
    by true e = refl
    by false e = ap (λ z. if z || has_failed a then outcome.Failed else outcome.Complete) (f e)

pub sound_found : (s : ShowState) (q : ℕ) (a : Attempt) → IsTrue (is_state s) → attempt_of s.live q ≡ Some a → Sound a
sound_found s q a h e = sound_of a
    (is_sound-of_attempt a (found_has is_attempt (has_number q) s.live a (attempts_of s.live (rules_of s h).live) e))

within : (s : ShowState) (q : ℕ) (a : Attempt) → IsTrue (is_state s) → attempt_of s.live q ≡ Some a
    → nat_lt s.last_seq q ≡ false
within s q a h e = low a.seq (same_number a.seq q (found_passes (has_number q) s.live a e))
    (found_has (λ b. nat_le b.seq s.last_seq) (has_number q) s.live a (rules_of s h).within e)
  where
    low : (n : ℕ) → n ≡ q → IsTrue (nat_le n s.last_seq) → nat_lt s.last_seq q ≡ false
    low n e k = let g : nat_le n s.last_seq ≡ true = k in grind (arith, nat_tests)

-- the cell of the table into which the answer falls
pub record Cell (s : ShowState) (a : Attempt) (from d q : ℕ) (kind : AnswerKind) : Type 0 where
  pub given : DeviceAnswer
  pub who : given.device ≡ d
  pub is : on_answer s from kind d q ≡ on_answer_in kind q given a.stage answer.Waiting

pub awaited_of : (s : ShowState) (q : ℕ) (a : Attempt) → attempt_of s.live q ≡ Some a
    → awaited s q ≡ devices_of (filter waits a.answers)
awaited_of s q a found = ap awaited_in found

pub cell_of : (s : ShowState) (a : Attempt) (from d q : ℕ) (kind : AnswerKind) → IsTrue (is_state s)
    → attempt_of s.live q ≡ Some a → IsTrue (is_among d (awaited s q)) → port_of s.show d ≡ Some from
    → Cell s a from d q kind
cell_of s a from d q kind h found m port =
    let here : IsTrue (is_among d (devices_of (filter waits a.answers))) =
    subst (λ (ds : List ℕ). IsTrue (is_among d ds)) (awaited_of s q a found) m in
    let w : IsWaiting d a.answers = is_waiting_one d a.answers (sound_distinct a (sound_found s q a h found)) here in
    record {
      given = w.given;
      who = device_found d a.answers w.given w.found;
      is = cell_at s said a w.given arrives found w.found
          ∙ ap (λ z. on_answer_in kind q w.given a.stage z) w.waits;
    }
  where
    said : Said
    said = record { from = from; kind = kind; device = d; number = q }

    arrives : IsTrue (comes s said)
    arrives = at (port_of s.show d) port (nat_lt s.last_seq q) (within s q a h found)
      where
        at : (o : Option ℕ) → o ≡ Some from → (l : Bool) → l ≡ false
            → IsTrue (is_some o && (not (option_map_or (λ p. not (nat_eq p from)) o true) && not l))
        at o e l k = rw (e, k) (own from)
          where
            own : (n : ℕ) → IsTrue (not (not (nat_eq n n)) && true)
            own n = grind (arith, nat_tests)

pub late_stage : (stage : Stage) (k : AnswerKind) → IsTrue (is_answer_in stage k) → IsTrue (is_concluding stage)
late_stage Decided k e = refl
late_stage (Cancelling r) k e = refl
late_stage Preparing k e = e

-- an answer of a device to the order of the present stage ends a waiting
pub an_answer_ends : (s : ShowState) (a : Attempt) (from d q : ℕ) (kind : AnswerKind) → IsTrue (is_state s)
    → attempt_of s.live q ≡ Some a → IsTrue (is_answer_in a.stage kind) → IsTrue (is_among d (awaited s q))
    → port_of s.show d ≡ Some from
    → EndsAWaiting q d (outcome_with (is_abort kind) a) s (after_events s (on_answer s from kind d q).1)
an_answer_ends s a from d q kind h found ok m port = record {
  others = answered_waits by;
  one_less = rw (answered_waits by, awaited_of s q a found) (one_gone d a.answers (sound_distinct a sound) here);
  last = λ none.
      let gone : some_waits (with_answer d g.given a.answers) ≡ false =
      none_some (with_answer d g.given a.answers) (sym (awaited_open (answers_as d g.given a)) ∙ sym (ap awaited_in by.makes)
      ∙ none) in
      record {
        gone = by.makes ∙ ap (λ b. if b then Some (answers_as d g.given a) else None) gone;
        last = by.ended
            ∙ ap (λ b. ended_as q (option_map outcome_of (if b then None else Some (answers_as d g.given a))) s.ended) gone
            ∙ ap (λ o. Some (record { seq = q; outcome = o })) (ends_so by (late_stage a.stage kind ok) sound gone
            ∙ same_end a (is_failed g.given) (is_abort kind) g.failed);
      };
}
  where
    sound : Sound a
    sound = sound_found s q a h found

    here : IsTrue (is_among d (devices_of (filter waits a.answers)))
    here = subst (λ (ds : List ℕ). IsTrue (is_among d ds)) (awaited_of s q a found) m

    cell : Cell s a from d q kind
    cell = cell_of s a from d q kind h found m port

    g : Gives kind q cell.given a.stage
    g = gives kind q cell.given a.stage ok

    state : after_events s (on_answer s from kind d q).1
        ≡ after_last_answer s q (after_answer q d g.given s.live)
    state = ap (λ j. after_events s j.1) cell.is ∙ g.makes s
        ∙ ap (λ n. after_last_answer s q (after_answer q n g.given s.live)) cell.who

    by : Answers q d g.given a s (after_events s (on_answer s from kind d q).1)
    by = answers_now q d g.given a s (after_events s (on_answer s from kind d q).1) g.good g.known g.own here h found state
