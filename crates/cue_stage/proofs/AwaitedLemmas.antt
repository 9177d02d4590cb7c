-- What each event makes of the devices for which a settled attempt waits.
use Rattle.std.proofs.Common.{◌≡◌, ◌⊎◌, inl, inr, ℕ, ◌+◌, ◌≤◌, Bool, true, false, not, ◌&&◌, ◌||◌, List, [], ◌∷◌}
use Rattle.std.proofs.Common.{length, map, filter, cond, nat_eq, nat_le, refl, sym, ap, ◌∙◌, subst, arith, true≢false}
use Rattle.std.proofs.Common.{Option, None, Some, IsTrue}
use Rattle.std.specs.Prelude.{option_and_then, if◌then◌else◌}
use Rattle.std.specs.Option.{option_map, option_map_or}
use Rattle.std.proofs.lemmas.Bool.Decides.{nat_tests}
use Rattle.cue_show.specs.Devices.{is_among}
use Rattle.cue_exchange.specs.declared.attempt.Answer.{Answer}
use Rattle.cue_exchange.specs.declared.attempt.Answer.TheVariants as answer
use Rattle.cue_exchange.specs.declared.attempt.Reason.{Reason}
use Rattle.cue_exchange.specs.declared.attempt.Stage.{Stage}
use Rattle.cue_exchange.specs.declared.attempt.Stage.TheVariants.{Preparing, Decided, Cancelling}
use Rattle.cue_exchange.specs.declared.attempt.DeviceAnswer.{DeviceAnswer}
use Rattle.cue_exchange.specs.declared.attempt.Attempt.{Attempt}
use Rattle.cue_exchange.specs.Answers.{answer_passes, answers_with, devices_of, is_cancelling, is_concluding}
use Rattle.cue_exchange.specs.Answers.{is_decided, is_excused, is_known_in, is_preparing, is_waiting, some_waits, waits}
use Rattle.cue_exchange.specs.Answers.{with_answer}
use Rattle.cue_exchange.specs.Live.{attempt_of}
use Rattle.cue_exchange.specs.Steps.{after_answer, answers_as, holds, moves_to, can_excuse_now, can_go_now, new_attempt}
use Rattle.cue_exchange.specs.Steps.{outcome_of, waits_in}
use Rattle.cue_exchange.proofs.LookUpLemmas.{attempt_of-push_other}
use Rattle.cue_core.specs.declared.event.Event.{Event}
use Rattle.cue_core.specs.declared.event.Event.TheVariants as event
use Rattle.cue_core.specs.State.{ShowState, cue_parts, is_state}
use Rattle.cue_core.specs.Steps.{acceptable, after, after_events, after_last_answer, are_acceptable, ended_as}
use Rattle.cue_core.proofs.lists.ConditionLemmas.{both, join, same_number}
use Rattle.cue_core.proofs.live.FindingLemmas.{attempt_of-without_ended, attempt_of-without_ended_other, found}
use Rattle.cue_core.proofs.live.FindingLemmas.{found-changed, found-closed, found-others, if_closed, if_open, rising}
use Rattle.cue_core.proofs.live.FindingLemmas.{rising-changed}
use Rattle.cue_core.proofs.rules.AtCueLemmas.{rises_of}
use Rattle.cue_core.proofs.rules.RuleLemmas.{is_state-after, rules_of}
use Rattle.cue_stage.specs.Waiting.{WaitsForNoMore, awaited, is_failed, is_failure_of, is_settled, without}

-- ---- lists

pub among_without : (d e : ℕ) (ds : List ℕ) → IsTrue (is_among e (without d ds)) → IsTrue (is_among e ds)
among_without d e [] h = h
among_without d e (x ∷ ds) h = by (nat_eq x d) h (among_without d e ds)
  where
    by : (b : Bool) → IsTrue (is_among e (cond (not b) (x ∷ without d ds) (without d ds)))
        → (IsTrue (is_among e (without d ds)) → IsTrue (is_among e ds)) → IsTrue (nat_eq x e || is_among e ds)
    by true k f = late (nat_eq x e) (f k)
      where
        late : (c : Bool) → IsTrue (is_among e ds) → IsTrue (c || is_among e ds)
        late true m = refl
        late false m = m
    by false k f = one (nat_eq x e) k
      where
        one : (c : Bool) → IsTrue (c || is_among e (without d ds)) → IsTrue (c || is_among e ds)
        one true m = refl
        one false m = f m

pub gone_without : (d : ℕ) (ds : List ℕ) → IsTrue (is_among d (without d ds)) → ⊥
gone_without d [] h = true≢false (sym h)
gone_without d (x ∷ ds) h = by (nat_eq x d) refl h (gone_without d ds)
  where
    by : (b : Bool) → nat_eq x d ≡ b → IsTrue (is_among d (cond (not b) (x ∷ without d ds) (without d ds)))
        → (IsTrue (is_among d (without d ds)) → ⊥) → ⊥
    by true e k f = f k
    by false e k f = f (subst (λ (c : Bool). IsTrue (c || is_among d (without d ds))) e k)

pub fewer_without : (d : ℕ) (ds : List ℕ) → length (without d ds) ≤ length ds
fewer_without d [] = omega arith
fewer_without d (x ∷ ds) = by (nat_eq x d) (fewer_without d ds)
  where
    by : (b : Bool) → length (without d ds) ≤ length ds
        → length (cond (not b) (x ∷ without d ds) (without d ds)) ≤ length (x ∷ ds)
    by true k = omega arith
    by false k = omega arith

-- who has answered for good is awaited no more, and each other one as before
pub waits_without : (d : ℕ) (x : Answer) (xs : List DeviceAnswer) → is_waiting x ≡ false
    → devices_of (filter waits (with_answer d x xs)) ≡ without d (devices_of (filter waits xs))
waits_without d x [] h = refl
waits_without d x (y ∷ xs) h = by (nat_eq y.device d) refl (is_waiting y.answer) refl (waits_without d x xs h)
  where
    rest : List DeviceAnswer
    rest = filter waits (with_answer d x xs)

    by : (b : Bool) → nat_eq y.device d ≡ b → (w : Bool) → is_waiting y.answer ≡ w
        → devices_of rest ≡ without d (devices_of (filter waits xs))
        → devices_of (cond (is_waiting (if b then x else y.answer)) (answers_with d x y ∷ rest) rest)
        ≡ without d (devices_of (cond w (y ∷ filter waits xs) (filter waits xs)))
    by true e true w k = rw (h, e) k
    by true e false w k = rw h k
    by false e true w k = rw (w, e) (ap (λ ds. y.device ∷ ds) k)
    by false e false w k = rw w k

pub none_waits : (xs : List DeviceAnswer) → some_waits xs ≡ false → filter waits xs ≡ []
none_waits [] h = refl
none_waits (x ∷ xs) h = by (waits x) h (none_waits xs)
  where
    by : (b : Bool) → (b || some_waits xs) ≡ false → (some_waits xs ≡ false → filter waits xs ≡ [])
        → cond b (x ∷ filter waits xs) (filter waits xs) ≡ []
    by true k f = absurd (true≢false k)
    by false k f = f k

pub passes_among : (d : ℕ) (xs : List DeviceAnswer) → IsTrue (answer_passes is_waiting d xs)
    → IsTrue (is_among d (devices_of (filter waits xs)))
passes_among d [] h = h
passes_among d (x ∷ xs) h = by (nat_eq x.device d) refl (waits x) h (passes_among d xs)
  where
    by : (b : Bool) → nat_eq x.device d ≡ b → (w : Bool) → IsTrue ((b && w) || answer_passes is_waiting d xs)
        → (IsTrue (answer_passes is_waiting d xs) → IsTrue (is_among d (devices_of (filter waits xs))))
        → IsTrue (is_among d (devices_of (cond w (x ∷ filter waits xs) (filter waits xs))))
    by true e true k f = rw e refl
    by true e false k f = f k
    by false e true k f = rw e (f k)
    by false e false k f = f k

-- ---- one event

-- the attempt q is as it was, and the event is no failure in it
pub record IsUntouched (q : ℕ) (failure : Bool) (old new : ShowState) : Type 0 where
  pub quiet : failure ≡ false
  pub same : attempt_of new.live q ≡ attempt_of old.live q

-- the device d of q has answered for good; q goes on if another is still to answer, and else it has ended
pub record Answers (q d : ℕ) (given : Answer) (a : Attempt) (old new : ShowState) : Type 0 where
  pub good : is_waiting given ≡ false
  pub known : IsTrue (is_known_in a.stage given)
  pub own : is_excused given ≡ false
  pub awaits : IsTrue (is_among d (devices_of (filter waits a.answers)))
  pub found : attempt_of old.live q ≡ Some a
  pub makes : attempt_of new.live q ≡ if_open (answers_as d given a)
  pub ended : new.ended ≡ ended_as q (option_map outcome_of (if_closed (answers_as d given a))) old.ended

-- some device has
pub record HasAnswered (q : ℕ) (failure : Bool) (old new : ShowState) : Type 0 where
  pub device : ℕ
  pub given : Answer
  pub attempt : Attempt
  pub fails : is_failed given ≡ failure
  pub by : Answers q device given attempt old new

-- one of the two
abbrev pub GoesOn : ℕ → Bool → ShowState → ShowState → Type 0
GoesOn q failure old new = IsUntouched q failure old new ⊎ HasAnswered q failure old new

abbrev pub concludes : Option Attempt → Bool
concludes o = option_map_or (λ a. is_concluding a.stage) o true

never_both : {A : Type 0} (stage : Stage) → IsTrue (is_concluding stage) → IsTrue (is_preparing stage) → A
never_both Preparing h k = absurd (true≢false (sym h))
never_both Decided h k = absurd (true≢false (sym k))
never_both (Cancelling r) h k = absurd (true≢false (sym k))

-- a settled attempt passes no test that asks for a Preparing one
not_preparing : {A : Type 0} (q : ℕ) (test : Attempt → Bool) (s : ShowState) → IsTrue (is_state s)
    → IsTrue (concludes (attempt_of s.live q)) → ((a : Attempt) → IsTrue (test a) → IsTrue (is_preparing a.stage))
    → IsTrue (holds q test s.live) → A
not_preparing q test s h c f k =
    let at = found q test s.live (rises_of s.live (rules_of s h).live) k in
    let now : IsTrue (is_concluding at.0.stage) = subst (λ (o : Option Attempt). IsTrue (concludes o)) at.1 c in
    never_both at.0.stage now (f at.0 at.2)

-- an event that changes a Preparing attempt
changes : (p q : ℕ) (f : Attempt → Attempt) (test : Attempt → Bool) (s new : ShowState)
    → ((a : Attempt) → (f a).seq ≡ a.seq) → IsTrue (is_state s) → IsTrue (concludes (attempt_of s.live q))
    → ((a : Attempt) → IsTrue (test a) → IsTrue (is_preparing a.stage)) → IsTrue (holds p test s.live)
    → new.live ≡ map (λ a. if nat_eq a.seq p then f a else a) s.live → IsUntouched q false s new
changes p q f test s new keeps h c g k is = by (nat_eq p q) refl
  where
    by : (b : Bool) → nat_eq p q ≡ b → IsUntouched q false s new
    by true e = not_preparing q test s h c g (subst (λ (n : ℕ). IsTrue (holds n test s.live)) (same_number p q e) k)
    by false e = record {
      quiet = refl;
      same = ap (λ live. attempt_of live q) is ∙ found-others p q f keeps s.live e;
    }

-- the last answer of a device of q
pub answers_now : (q d : ℕ) (x : Answer) (a : Attempt) (s new : ShowState) → is_waiting x ≡ false
    → IsTrue (is_known_in a.stage x) → is_excused x ≡ false → IsTrue (is_among d (devices_of (filter waits a.answers)))
    → IsTrue (is_state s) → attempt_of s.live q ≡ Some a → new ≡ after_last_answer s q (after_answer q d x s.live)
    → Answers q d x a s new
answers_now q d x a s new good known own awaits h at is =
    let rises : IsTrue (rising s.live) = rises_of s.live (rules_of s h).live in
    let live : List Attempt = after_answer q d x s.live in
    let now : attempt_of live q ≡ Some (answers_as d x a) = found-changed q (answers_as d x) (λ b. refl) s.live a at in
    let up : IsTrue (rising live) = rising-changed q (answers_as d x) (λ b. refl) s.live rises in
    record {
      good = good;
      known = known;
      own = own;
      awaits = awaits;
      found = at;
      makes = ap (λ (t : ShowState). attempt_of t.live q) is
          ∙ (attempt_of-without_ended q live up ∙ ap (λ o. option_and_then if_open o) now);
      ended = ap (λ (t : ShowState). t.ended) is
          ∙ ap (λ o. ended_as q (option_map outcome_of o) s.ended)
          (found-closed q live up ∙ ap (λ o. option_and_then if_closed o) now);
    }

-- an event that is the last answer of a device
answers : (p q d : ℕ) (x : Answer) (failure : Bool) (test : Stage → Bool) (s new : ShowState) → is_waiting x ≡ false
    → is_excused x ≡ false → ((t : Stage) → IsTrue (test t) → IsTrue (is_known_in t x))
    → (nat_eq p q ≡ true → is_failed x ≡ failure) → (nat_eq p q ≡ false → failure ≡ false)
    → IsTrue (is_state s) → IsTrue (holds p (waits_in test d) s.live)
    → new ≡ after_last_answer s p (after_answer p d x s.live) → GoesOn q failure s new
answers p q d x failure test s new good own knows fails quiet h k is = by (nat_eq p q) refl
  where
    here : nat_eq p q ≡ true → p ≡ q → HasAnswered q failure s new
    here b e =
        let at = found q (waits_in test d) s.live (rises_of s.live (rules_of s h).live)
        (subst (λ (n : ℕ). IsTrue (holds n (waits_in test d) s.live)) e k) in
        let w = both (test at.0.stage) (answer_passes is_waiting d at.0.answers) at.2 in
        record {
          device = d;
          given = x;
          attempt = at.0;
          fails = fails b;
          by = answers_now q d x at.0 s new good (knows at.0.stage w.0) own (passes_among d at.0.answers w.1) h at.1
              (subst (λ (n : ℕ). new ≡ after_last_answer s n (after_answer n d x s.live)) e is);
        }

    by : (b : Bool) → nat_eq p q ≡ b → GoesOn q failure s new
    by true e = inr (here e (same_number p q e))
    by false e = inl (record {
      quiet = quiet e;
      same = ap (λ (t : ShowState). attempt_of t.live q) is
          ∙ attempt_of-without_ended_other p q (after_answer p d x s.live) e
          ∙ found-others p q (answers_as d x) (λ a. refl) s.live e;
    })

done_known : (t : Stage) → IsTrue (is_decided t) → IsTrue (is_known_in t answer.Done)
done_known Decided h = refl
done_known Preparing h = absurd (true≢false (sym h))
done_known (Cancelling r) h = absurd (true≢false (sym h))

gone_known : (t : Stage) → IsTrue (is_cancelling t) → IsTrue (is_known_in t answer.LetGo)
gone_known (Cancelling r) h = refl
gone_known Preparing h = absurd (true≢false (sym h))
gone_known Decided h = absurd (true≢false (sym h))

failed_known : (t : Stage) → IsTrue (is_concluding t) → IsTrue (is_known_in t answer.Failed)
failed_known Decided h = refl
failed_known (Cancelling r) h = refl
failed_known Preparing h = absurd (true≢false (sym h))

first_of : (b c : Bool) → IsTrue (b && c) → IsTrue b
first_of b c h = (both b c h).0

pub cancel_untouched : (s : ShowState) (p : ℕ) (r : Reason) (q : ℕ) → IsTrue (is_state s)
    → IsTrue (acceptable s (event.Cancel p r)) → IsTrue (concludes (attempt_of s.live q))
    → IsUntouched q false s (after s (event.Cancel p r))
cancel_untouched s p r q h ok c =
    changes p q (moves_to (Cancelling r)) (λ a. is_preparing a.stage) s (after s (event.Cancel p r)) (λ a. refl) h c
    (λ a k. k) ok refl

pub event_goes_on : (s : ShowState) (e : Event) (q : ℕ) → IsTrue (is_state s) → IsTrue (acceptable s e)
    → IsTrue (nat_le q s.last_seq) → IsTrue (concludes (attempt_of s.live q))
    → GoesOn q (is_failure_of q e) s (after s e)
event_goes_on s (event.Start p c t) q h ok n k =
    let next : p ≡ s.last_seq + 1 = same_number p (s.last_seq + 1) (first_of (nat_eq p (s.last_seq + 1)) _ ok) in
    inl (record {
      quiet = refl;
      same = attempt_of-push_other q (new_attempt p c t (cue_parts s.show c)) s.live (λ e. above p next e);
    })
  where
    above : (m : ℕ) → m ≡ s.last_seq + 1 → q ≡ m → ⊥
    above m e f = let g : IsTrue (nat_le q s.last_seq) = n in grind (arith, nat_tests)
event_goes_on s (event.Ready p d) q h ok n c =
    inl (changes p q (answers_as d answer.Ready) (waits_in is_preparing d) s (after s (event.Ready p d)) (λ a. refl) h c
    (λ a k. first_of (is_preparing a.stage) _ k) ok refl)
event_goes_on s (event.Go p) q h ok n c =
    inl (changes p q (moves_to Decided) can_go_now s (after s (event.Go p)) (λ a. refl) h c
    (λ a k. first_of (is_preparing a.stage) _ k) ok refl)
event_goes_on s (event.Done p d) q h ok n c =
    answers p q d answer.Done false is_decided s (after s (event.Done p d)) refl refl done_known (λ e. refl) (λ e. refl) h
    ok refl
event_goes_on s (event.Cancel p r) q h ok n c = inl (cancel_untouched s p r q h ok c)
event_goes_on s (event.LetGo p d) q h ok n c =
    answers p q d answer.LetGo false is_cancelling s (after s (event.LetGo p d)) refl refl gone_known (λ e. refl)
    (λ e. refl) h ok refl
event_goes_on s (event.Failed p d) q h ok n c =
    answers p q d answer.Failed (nat_eq p q) is_concluding s (after s (event.Failed p d)) refl refl failed_known
    (λ e. sym e) (λ e. e) h ok refl
event_goes_on s (event.Excuse p d) q h ok n c =
    inl (changes p q (answers_as d answer.Excused) (can_excuse_now d) s (after s (event.Excuse p d)) (λ a. refl) h c
    (λ a k. first_of (is_preparing a.stage) _ k) ok refl)
event_goes_on s _ q h ok n c = inl (record { quiet = refl; same = refl })

-- ---- who is awaited then

abbrev pub awaited_in : Option Attempt → List ℕ
awaited_in o = option_map_or (λ a. devices_of (filter waits a.answers)) o []

pub awaited_open : (a : Attempt) → awaited_in (if_open a) ≡ devices_of (filter waits a.answers)
awaited_open a = by (some_waits a.answers) refl
  where
    by : (b : Bool) → some_waits a.answers ≡ b
        → awaited_in (if b then Some a else None) ≡ devices_of (filter waits a.answers)
    by true e = refl
    by false e = sym (ap devices_of (none_waits a.answers e))

pub answered_waits : {q d : ℕ} {x : Answer} {a : Attempt} {old new : ShowState} → Answers q d x a old new
    → awaited new q ≡ without d (awaited old q)
answered_waits {d = d} {x = x} {a = a} w = ap awaited_in w.makes ∙ awaited_open (answers_as d x a)
    ∙ waits_without d x a.answers w.good ∙ ap (without d) (sym (ap awaited_in w.found))

concludes_open : (a : Attempt) → IsTrue (is_concluding a.stage) → IsTrue (concludes (if_open a))
concludes_open a h = by (some_waits a.answers)
  where
    by : (b : Bool) → IsTrue (concludes (if b then Some a else None))
    by true = h
    by false = refl

pub still_concludes : (q : ℕ) (f : Bool) (old new : ShowState) → GoesOn q f old new → IsTrue (concludes (attempt_of old.live q))
    → IsTrue (concludes (attempt_of new.live q))
still_concludes q f old new (inl w) h = subst (λ (o : Option Attempt). IsTrue (concludes o)) (sym w.same) h
still_concludes q f old new (inr w) h =
    subst (λ (o : Option Attempt). IsTrue (concludes o)) (sym w.by.makes)
    (concludes_open (answers_as w.device w.given w.attempt)
    (subst (λ (o : Option Attempt). IsTrue (concludes o)) w.by.found h))

pub last_rises : (s : ShowState) (e : Event) (q : ℕ) → IsTrue (acceptable s e) → IsTrue (nat_le q s.last_seq)
    → IsTrue (nat_le q (after s e).last_seq)
last_rises s (event.Start p c t) q ok n = up p (same_number p (s.last_seq + 1)
    (first_of (nat_eq p (s.last_seq + 1)) _ ok))
  where
    up : (m : ℕ) → m ≡ s.last_seq + 1 → IsTrue (nat_le q m)
    up m e = let g : IsTrue (nat_le q s.last_seq) = n in grind (arith, nat_tests)
last_rises s _ q ok n = n

no_more : (q : ℕ) (f : Bool) (old new : ShowState) → IsTrue (nat_le q new.last_seq) → IsTrue (concludes (attempt_of old.live q))
    → GoesOn q f old new → WaitsForNoMore q old new
no_more q f old new n c (inl w) =
    let same : awaited new q ≡ awaited old q = ap awaited_in w.same in
    record {
      settled = join _ _ n (still_concludes q f old new (inl w) c);
      none_new = λ d k. subst (λ (ds : List ℕ). IsTrue (is_among d ds)) same k;
      number = rw same (omega arith);
    }
no_more q f old new n c (inr w) =
    let less : awaited new q ≡ without w.device (awaited old q) = answered_waits w.by in
    record {
      settled = join _ _ n (still_concludes q f old new (inr w) c);
      none_new = λ d k. among_without w.device d (awaited old q)
          (subst (λ (ds : List ℕ). IsTrue (is_among d ds)) less k);
      number = rw less (fewer_without w.device (awaited old q));
    }

pub settled_parts : (s : ShowState) (q : ℕ) → IsTrue (is_settled s q)
    → IsTrue (nat_le q s.last_seq) × IsTrue (concludes (attempt_of s.live q))
settled_parts s q h = both (nat_le q s.last_seq) (concludes (attempt_of s.live q)) h

pub event_waits : (s : ShowState) (e : Event) (q : ℕ) → IsTrue (is_state s) → IsTrue (acceptable s e)
    → IsTrue (is_settled s q) → WaitsForNoMore q s (after s e)
event_waits s e q h ok c =
    let p = settled_parts s q c in
    no_more q (is_failure_of q e) s (after s e) (last_rises s e q ok p.0) p.1 (event_goes_on s e q h ok p.0 p.1)

pub one_more : {q : ℕ} {old middle new : ShowState} → WaitsForNoMore q old middle → WaitsForNoMore q middle new
    → WaitsForNoMore q old new
one_more v w = record {
  settled = w.settled;
  none_new = λ d k. v.none_new d (w.none_new d k);
  number = let a = v.number in let b = w.number in omega arith;
}

-- whatever events come, a device for which a settled attempt does not wait is not awaited in it again
pub nobody_is_awaited_again : (s : ShowState) (es : List Event) (q : ℕ) → IsTrue (is_state s)
    → IsTrue (are_acceptable s es) → IsTrue (is_settled s q) → WaitsForNoMore q s (after_events s es)
nobody_is_awaited_again s [] q h ok c = record { settled = c; none_new = λ d k. k; number = omega arith }
nobody_is_awaited_again s (e ∷ es) q h ok c =
    let p = both (acceptable s e) (are_acceptable (after s e) es) ok in
    let first = event_waits s e q h p.0 c in
    one_more first (nobody_is_awaited_again (after s e) es q (is_state-after s e h p.0) p.1 first.settled)
