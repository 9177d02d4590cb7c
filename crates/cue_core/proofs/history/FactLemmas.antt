-- The facts by history, and the order of an attempt's events.
use Rattle.std.proofs.Common.{◌≡◌, ℕ, ◌+◌, List, [], ◌∷◌, refl, sym, ◌∙◌, ap, subst, Bool, true, false, not, ◌&&◌, ◌||◌}
use Rattle.std.proofs.Common.{inl, inr, nat_eq, arith, Option, None, Some}
use Rattle.std.specs.Prelude.{IsTrue, is_some, count_by, if◌then◌else◌}
use Rattle.std.specs.Bool.{beq}
use Rattle.std.specs.List.{list_all, list_any}
use Rattle.std.proofs.lemmas.List.Recursion.{is_count_by}
use Rattle.cue_show.specs.declared.part.Part.{Part}
use Rattle.cue_exchange.specs.declared.attempt.Answer.{Answer}
use Rattle.cue_exchange.specs.declared.attempt.Answer.TheVariants as answer
use Rattle.cue_exchange.specs.declared.attempt.DeviceAnswer.{DeviceAnswer}
use Rattle.cue_exchange.specs.declared.attempt.Attempt.{Attempt}
use Rattle.cue_exchange.specs.Answers.{is_ready, is_excused, is_preparing, is_known_in, may_be_in, answer_passes}
use Rattle.cue_exchange.specs.Answers.{devices_of, may_go, all_may_go}
use Rattle.cue_exchange.specs.Live.{attempt_of, has_number, is_among}
use Rattle.cue_exchange.specs.Steps.{can_go_now, can_start}
use Rattle.cue_show.specs.Show.{has_cue}
use Rattle.cue_core.specs.declared.event.Event.{Event}
use Rattle.cue_core.specs.declared.event.Event.TheVariants as event
use Rattle.cue_core.specs.State.{ShowState, cue_parts, is_of_part, are_of_parts}
use Rattle.cue_core.specs.Steps.{acceptable, after}
use Rattle.cue_core.specs.Events.{is_start, is_start_of, is_go_of, is_cancel_of, is_end_of}
use Rattle.cue_core.specs.History.{state_of, is_history, parts_by, devices_by, is_live_by, stood_by, was_excused}
use Rattle.cue_core.specs.History.{FactsByHistory}
use Rattle.cue_core.specs.InOrder.{may_go_by, keeps_order, is_in_order, GoAfterReady}
use Rattle.cue_core.proofs.lists.ConditionLemmas.{both, join, cases, agrees, same-agrees, all_zip, any_not, same_number}
use Rattle.cue_core.proofs.live.FindingLemmas.{found, found_has}
use Rattle.cue_core.proofs.history.AttemptLemmas.{not_decided}
use Rattle.cue_core.proofs.history.TellsLemmas.{Tells, devices_told, is_last, last_by, ready_by}
use Rattle.cue_core.proofs.history.TellsLemmas.{excused_by}
use Rattle.cue_core.proofs.history.NumberLemmas.{IsSound, Kept, Settles}
use Rattle.cue_core.proofs.rules.SoundLemmas.{kept-history, sound-history}

-- ---- the last number

last_counts : (s : ShowState) (e : Event) → IsTrue (acceptable s e)
    → (after s e).last_seq ≡ (if is_start e then 1 + s.last_seq else s.last_seq)
last_counts s (event.Device d port) g = refl
last_counts s (event.NoDevice d) g = refl
last_counts s (event.Cue c parts) g = refl
last_counts s (event.NoCue c) g = refl
last_counts s (event.Place c) g = refl
last_counts s (event.Start q c t) g = let e =
    same_number q (s.last_seq + 1)
    (both (nat_eq q (s.last_seq + 1)) (has_cue s.show c && can_start q t (cue_parts s.show c) s.live) g).0 in
    omega arith
last_counts s (event.Ready q d) g = refl
last_counts s (event.Go q) g = refl
last_counts s (event.Done q d) g = refl
last_counts s (event.Cancel q r) g = refl
last_counts s (event.LetGo q d) g = refl
last_counts s (event.Failed q d) g = refl
last_counts s (event.Excuse q d) g = refl

abbrev starts : List Event → ℕ
starts [] = 0
starts (e ∷ h) = if is_start e then 1 + starts h else starts h

last_starts : (h : List Event) → IsTrue (is_history h) → (state_of h).last_seq ≡ starts h
last_starts [] p = refl
last_starts (e ∷ h) p = let q = both (acceptable (state_of h) e) (is_history h) p in last_counts (state_of h) e q.0
    ∙ ap (λ n. if is_start e then 1 + n else n) (last_starts h q.1)

pub last-count : (h : List Event) → IsTrue (is_history h) → (state_of h).last_seq ≡ count_by is_start h
last-count h p = last_starts h p ∙ is_count_by starts is_start refl (λ _ _. refl) h

-- ---- the live numbers

-- what the history tells of an attempt is told of its devices
ended_told : (h : List Event) (q : ℕ) (xs : List DeviceAnswer) → IsTrue (list_all (last_by h q) xs)
    → list_all (λ d. list_any (is_end_of q d) h) (devices_of xs) ≡ list_all (λ x. is_last x.answer) xs
ended_told h q [] k = refl
ended_told h q (x ∷ xs) k =
    let p = both (last_by h q x) (list_all (last_by h q) xs) k in
    rw (ended_told h q xs p.1, ← same-agrees (is_last x.answer) (list_any (is_end_of q x.device) h) p.0) refl

and_nothing : (b c : Bool) → c ≡ true → (b && not c) ≡ false
and_nothing true c e = rw e refl
and_nothing false c e = refl

live_told : (h : List Event) (q : ℕ) (o : Option Attempt)
    → ((a : Attempt) → o ≡ Some a → IsTrue (not (list_all (λ x. is_last x.answer) a.answers))) → Settles h q o
    → is_some o ≡ is_live_by h q
live_told h q None left k =
    sym (rw (any_not (λ d. list_any (is_end_of q d) h) (devices_by h q))
    (and_nothing (list_any (is_start_of q) h) (list_all (λ d. list_any (is_end_of q d) h) (devices_by h q)) k))
live_told h q (Some a) left t =
    sym (rw (
      any_not (λ d. list_any (is_end_of q d) h) (devices_by h q),
      t.begun,
      ← devices_told h q a t,
      ended_told h q
          a.answers t.ended,
    ) (left a refl))

-- ---- who stood by

-- no device of that number stood by
none_stands : (d : ℕ) (R : ℕ → Bool) (xs : List DeviceAnswer)
    → IsTrue (list_all (λ x. agrees (is_ready x.answer) (R x.device)) xs) → R d ≡ false
    → answer_passes is_ready d xs ≡ false
none_stands d R [] k n = refl
none_stands d R (x ∷ xs) k n =
    let p = both (agrees (is_ready x.answer) (R x.device)) (list_all (λ x. agrees (is_ready x.answer) (R x.device)) xs)
    k in
    at (nat_eq x.device d) refl (same-agrees (is_ready x.answer) (R x.device) p.0) (none_stands d R xs p.1 n)
  where
    at : (b : Bool) → nat_eq x.device d ≡ b → is_ready x.answer ≡ R x.device → answer_passes is_ready d xs ≡ false
        → ((b && is_ready x.answer) || answer_passes is_ready d xs) ≡ false
    at true e r f = let same = same_number x.device d e in rw (r, same, n) f
    at false e r f = f

one_stands : (d : ℕ) (R : ℕ → Bool) (xs : List DeviceAnswer)
    → IsTrue (list_all (λ x. agrees (is_ready x.answer) (R x.device)) xs) → R d ≡ true
    → IsTrue (is_among d (devices_of xs)) → answer_passes is_ready d xs ≡ true
one_stands d R [] k n m = cc
one_stands d R (x ∷ xs) k n m =
    let p = both (agrees (is_ready x.answer) (R x.device)) (list_all (λ x. agrees (is_ready x.answer) (R x.device)) xs)
    k in
    at (nat_eq x.device d) refl (same-agrees (is_ready x.answer) (R x.device) p.0) (one_stands d R xs p.1 n) m
  where
    at : (b : Bool) → nat_eq x.device d ≡ b → is_ready x.answer ≡ R x.device
        → (IsTrue (is_among d (devices_of xs)) → answer_passes is_ready d xs ≡ true)
        → IsTrue (b || is_among d (devices_of xs)) → ((b && is_ready x.answer) || answer_passes is_ready d xs) ≡ true
    at true e r f m = let same = same_number x.device d e in rw (r, same, n) refl
    at false e r f m = f m

ready_told : (d : ℕ) (R : ℕ → Bool) (xs : List DeviceAnswer)
    → IsTrue (list_all (λ x. agrees (is_ready x.answer) (R x.device)) xs) → IsTrue (is_among d (devices_of xs))
    → answer_passes is_ready d xs ≡ R d
ready_told d R xs k m = elim (cases (R d)) [
  | inl e ↦ one_stands d R xs k e m ∙ sym e
  | inr e ↦ none_stands d R xs k e
      ∙ sym e
]

pub told_of : (h : List Event) (q : ℕ) (o : Option Attempt) (a : Attempt) → o ≡ Some a → Settles h q o → Tells h q a
told_of h q o a e k = let P : Option Attempt → Type 0 = λ x. Settles h q x in subst P e k

pub facts-by-history : FactsByHistory
facts-by-history h p =
    let k = kept-history h p in
    let i = sound-history h p in
    record {
      last = last-count h p;
      live = λ q. live_told h q (attempt_of (state_of h).live q)
          (λ a e. found_has (λ b. not (list_all (λ x. is_last x.answer) b.answers)) (has_number q) (state_of h).live a
          i.left e) (k.settles q);
      parts = λ q a e. (told_of h q (attempt_of (state_of h).live q) a e (k.settles q)).parts;
      devices = λ q a e. devices_told h q a (told_of h q (attempt_of (state_of h).live q) a e (k.settles q));
      decided = λ q a e. (told_of h q (attempt_of (state_of h).live q) a e (k.settles q)).decided;
      ready = λ q d a e s m. ready_told d (λ n. stood_by h q n && not (was_excused h q n)) a.answers
          ((told_of h q (attempt_of (state_of h).live q) a e (k.settles q)).ready s) m;
    }

-- ---- the order

same_bool : (b c : Bool) → IsTrue (beq b c) → b ≡ c
same_bool true true e = refl
same_bool false false e = refl
same_bool true false e = cc
same_bool false true e = cc

-- the device stood by, or it is optional and was excused
abbrev goes_by : List Event → ℕ → DeviceAnswer → Bool
goes_by h q x = stood_by h q x.device || (x.optional && was_excused h q x.device)

-- what the history tells of a device of a Preparing attempt, and the rules of its answer
abbrev told_by : List Event → ℕ → DeviceAnswer → Bool
told_by h q x = ready_by h q x && (excused_by h q x && not (not x.optional && is_excused x.answer))

may_go_told : (a : Answer) (optional stood excused : Bool) → IsTrue (is_ready a || is_excused a)
    → IsTrue (agrees (is_ready a) (stood && not excused) &&
    (agrees (is_excused a) excused && not (not optional && is_excused a)))
    → IsTrue (stood || (optional && excused))
may_go_told answer.Waiting optional stood excused m k = cc
may_go_told answer.Ready optional true excused m k = refl
may_go_told answer.Ready optional false excused m k = cc
may_go_told answer.Done optional stood excused m k = cc
may_go_told answer.LetGo optional stood excused m k = cc
may_go_told answer.Failed optional stood excused m k = cc
may_go_told answer.Excused optional true excused m k = refl
may_go_told answer.Excused true false true m k = refl
may_go_told answer.Excused true false false m k = cc
may_go_told answer.Excused false false true m k = cc
may_go_told answer.Excused false false false m k = cc

-- what each device does, its part does
parts_told : (h : List Event) (q : ℕ) (ps : List Part) (xs : List DeviceAnswer) → IsTrue (are_of_parts ps xs)
    → IsTrue (list_all (goes_by h q) xs) → IsTrue (list_all (may_go_by h q) ps)
parts_told h q [] xs m k = refl
parts_told h q (p ∷ ps) [] m k = cc
parts_told h q (p ∷ ps) (x ∷ xs) m k =
    let n = both (is_of_part p x) (are_of_parts ps xs) m in
    let g = both (goes_by h q x) (list_all (goes_by h q) xs) k in
    let s = both (nat_eq p.device x.device) (beq p.optional x.optional) n.0 in
    join (may_go_by h q p) (list_all (may_go_by h q) ps)
    (rw (same_number p.device x.device s.0, same_bool p.optional x.optional s.1) g.0) (parts_told h q ps xs n.1 g.1)

parts_go : (h : List Event) (q : ℕ) (a : Attempt) → IsTrue (is_preparing a.stage)
    → IsTrue (list_all (may_be_in a.stage) a.answers) → Tells h q a → IsTrue (all_may_go a.answers)
    → IsTrue (list_all (may_go_by h q) (parts_by h q))
parts_go h q a p s t g =
    parts_told h q (parts_by h q) a.answers t.parts
    (all_zip may_go (told_by h q) (goes_by h q) a.answers
    (λ x m k. may_go_told x.answer x.optional (stood_by h q x.device) (was_excused h q x.device) m k) g
    (all_zip (ready_by h q) (λ x. excused_by h q x && not (not x.optional && is_excused x.answer)) (told_by h q)
    a.answers (λ x r k. join (ready_by h q x) (excused_by h q x && not (not x.optional && is_excused x.answer)) r k)
    (t.ready p)
    (all_zip (excused_by h q) (may_be_in a.stage) (λ x. excused_by h q x && not (not x.optional && is_excused x.answer))
    a.answers (λ x e k. join (excused_by h q x) (not (not x.optional && is_excused x.answer)) e
    (both (is_known_in a.stage x.answer) (not (not x.optional && is_excused x.answer)) k).1) (t.excused p) s)))

preparing_no : (h : List Event) (q : ℕ) (a : Attempt) → IsTrue (is_preparing a.stage) → Tells h q a
    → IsTrue (not (list_any (is_go_of q) h)) × IsTrue (not (list_any (is_cancel_of q) h))
preparing_no h q a p t =
    (rw (← t.decided, (not_decided a.stage p).0) refl, rw (← t.cancelled, (not_decided a.stage p).1) refl)

keeps : (h : List Event) (e : Event) → Kept h (state_of h) → IsSound (state_of h) → IsTrue (acceptable (state_of h) e)
    → IsTrue (keeps_order h e)
keeps h (event.Device d port) k i g = refl
keeps h (event.NoDevice d) k i g = refl
keeps h (event.Cue c parts) k i g = refl
keeps h (event.NoCue c) k i g = refl
keeps h (event.Place c) k i g = refl
keeps h (event.Start q c t) k i g = refl
keeps h (event.Ready q d) k i g = refl
keeps h (event.Go q) k i g =
    let f = found q can_go_now (state_of h).live i.rises g in
    let p = both (is_preparing f.0.stage) (all_may_go f.0.answers) f.2 in
    let t = told_of h q (attempt_of (state_of h).live q) f.0 f.1 (k.settles q) in
    let s = found_has (λ b. list_all (may_be_in b.stage) b.answers) (has_number q) (state_of h).live f.0 i.stand f.1 in
    join (list_any (is_start_of q) h) (list_all (may_go_by h q) (parts_by h q) && not (list_any (is_cancel_of q) h))
    t.begun
    (join (list_all (may_go_by h q) (parts_by h q)) (not (list_any (is_cancel_of q) h)) (parts_go h q f.0 p.0 s t p.1)
    (preparing_no h q f.0 p.0 t).1)
keeps h (event.Done q d) k i g = refl
keeps h (event.Cancel q r) k i g =
    let f = found q (λ a. is_preparing a.stage) (state_of h).live i.rises g in
    (preparing_no h q f.0 f.2 (told_of h q (attempt_of (state_of h).live q) f.0 f.1 (k.settles q))).0
keeps h (event.LetGo q d) k i g = refl
keeps h (event.Failed q d) k i g = refl
keeps h (event.Excuse q d) k i g = refl

pub go-after-ready : GoAfterReady
go-after-ready [] p = refl
go-after-ready (e ∷ h) p =
    let q = both (acceptable (state_of h) e) (is_history h) p in
    join (keeps_order h e) (is_in_order h) (keeps h e (kept-history h q.1) (sound-history h q.1) q.0)
    (go-after-ready h q.1)
