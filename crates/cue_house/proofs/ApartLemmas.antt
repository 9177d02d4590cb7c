-- At one cue at most one attempt is live; so of two attempts of a cue the one ended before the other started.
use Rattle.std.proofs.Common.{◌≡◌, ◌⊎◌, inl, inr, ℕ, Bool, true, false, not, ◌||◌, List, [], ◌∷◌, ◌++◌, find, Option}
use Rattle.std.proofs.Common.{None, Some, if◌then◌else◌, nat_eq, nat_lt, refl, sym, ap, ◌∙◌, subst, true≢false, IsTrue}
use Rattle.std.proofs.Common.{append_assoc}
use Rattle.std.specs.List.{list_all, list_any}
use Rattle.std.specs.Option.{option_map_or}
use Rattle.cue_show.specs.declared.part.Part.{Part}
use Rattle.cue_show.specs.Devices.{disjoint, is_among}
use Rattle.cue_show.specs.Show.{parts_of}
use Rattle.cue_exchange.specs.declared.attempt.Attempt.{Attempt}
use Rattle.cue_exchange.specs.declared.attempt.DeviceAnswer.{DeviceAnswer}
use Rattle.cue_exchange.specs.Answers.{devices_of, has_required}
use Rattle.cue_exchange.specs.Live.{attempt_of, devices_in, goes_before, has_number, is_attempt, pairwise}
use Rattle.cue_exchange.proofs.LiveLemmas.{attempts_of, order_of}
use Rattle.cue_core.specs.declared.event.Event.{Event}
use Rattle.cue_core.specs.declared.event.Event.TheVariants as event
use Rattle.cue_core.specs.Batches.{is_live_in}
use Rattle.cue_core.specs.Events.{is_start_of}
use Rattle.cue_core.specs.Happenings.{onto}
use Rattle.cue_core.specs.History.{is_history, state_of}
use Rattle.cue_core.specs.State.{ShowState, are_of_parts, empty_state, is_at_cue, is_state}
use Rattle.cue_core.specs.Steps.{after_events}
use Rattle.cue_core.proofs.history.RestLemmas.{live-by-start}
use Rattle.cue_core.proofs.history.TellsLemmas.{devices-parts}
use Rattle.cue_core.proofs.lists.AnyLemmas.{any-append, itself, or_left, or_right, same}
use Rattle.cue_core.proofs.lists.ConditionLemmas.{both}
use Rattle.cue_core.proofs.live.FindingLemmas.{found, found_has, found_passes}
use Rattle.cue_core.proofs.rules.ApplyLemmas.{after_events-append}
use Rattle.cue_core.proofs.rules.AtCueLemmas.{rises_of}
use Rattle.cue_core.proofs.rules.BatchLemmas.{onto-append, state-onto}
use Rattle.cue_core.proofs.rules.RuleLemmas.{rules_of}
use Rattle.cue_core.proofs.rules.SoundLemmas.{attempt_rules, is_state-history}
use Rattle.cue_core.proofs.verdicts.LiveJudgementLemmas.{found_holds}
use Rattle.cue_engine.proofs.AttemptLemmas.{any_first}
use Rattle.cue_stage.specs.Tasks.{cue_by}
use Rattle.cue_stage.proofs.BegunLemmas.{IsBegun, begun-history}
use Rattle.cue_stage.proofs.StartLemmas.{cue_stays, history_before, no_start}
use Rattle.cue_house.specs.Copies.{EndedBefore, IsFor}
use Rattle.cue_house.proofs.DecidedLemmas.{found_one}

-- ---- one attempt at a cue

-- of two that are found the one stands before the other, or they are one
two_found : {A : Type 0} (R : A → A → Bool) (t u : A → Bool) (xs : List A) (a b : A) → IsTrue (pairwise R xs)
    → find t xs ≡ Some a → find u xs ≡ Some b → (a ≡ b) ⊎ (IsTrue (R a b) ⊎ IsTrue (R b a))
two_found R t u [] a b h e f = cc
two_found R t u (x ∷ xs) a b h e f =
    let w = both (list_all (R x) xs) (pairwise R xs) h in
    at (t x) (u x) (λ k l. two_found R t u xs a b w.1 k l) w.0 e f
  where
    at : (c d : Bool)
        → (find t xs ≡ Some a → find u xs ≡ Some b → (a ≡ b) ⊎ (IsTrue (R a b) ⊎ IsTrue (R b a)))
        → IsTrue (list_all (R x) xs) → (if c then Some x else find t xs) ≡ Some a
        → (if d then Some x else find u xs) ≡ Some b → (a ≡ b) ⊎ (IsTrue (R a b) ⊎ IsTrue (R b a))
    at true true more all k l = inl (let one : x ≡ a = cc in let two : x ≡ b = cc in sym one ∙ two)
    at true false more all k l =
        let one : x ≡ a = cc in
        inr (inl (subst (λ y. IsTrue (R y b)) one (found_has (R x) u xs b all l)))
    at false true more all k l =
        let two : x ≡ b = cc in
        inr (inr (subst (λ y. IsTrue (R y a)) two (found_has (R x) t xs a all k)))
    at false false more all k l = more k l

-- a list with a device shares it with itself
not_disjoint : (xs : List DeviceAnswer) → IsTrue (has_required xs)
    → IsTrue (disjoint (devices_of xs) (devices_of xs)) → ⊥
not_disjoint [] some apart = true≢false (sym some)
not_disjoint (x ∷ xs) some apart =
    let first : IsTrue (not (is_among x.device (devices_of (x ∷ xs)))) =
    (both (not (is_among x.device (devices_of (x ∷ xs)))) _ apart).0 in
    let there : is_among x.device (devices_of (x ∷ xs)) ≡ true = or_left (nat_eq x.device x.device) _ (itself x.device) in
    true≢false (sym first ∙ ap not there)

at_parts : (a : Attempt) (o : Option (List Part)) (parts : List Part) → o ≡ Some parts
    → IsTrue (option_map_or (λ ps. are_of_parts ps a.answers) o false) → devices_of a.answers ≡ devices_in parts
at_parts a o parts is h =
    devices-parts parts a.answers
    (subst (λ (x : Option (List Part)). IsTrue (option_map_or (λ ps. are_of_parts ps a.answers) x false)) is h)

there_are_parts : (a : Attempt) (o : Option (List Part))
    → IsTrue (option_map_or (λ ps. are_of_parts ps a.answers) o false) → (parts : List Part) × (o ≡ Some parts)
there_are_parts a None h = absurd (true≢false (sym h))
there_are_parts a (Some parts) h = (parts, refl)

-- two live attempts of one cue are one
one_at_cue : (s : ShowState) (p q : ℕ) (a b : Attempt) → IsTrue (is_state s) → attempt_of s.live p ≡ Some a
    → attempt_of s.live q ≡ Some b → a.cue ≡ b.cue → p ≡ q
one_at_cue s p q a b h e f cue =
    let r = rules_of s h in
    let a_at : IsTrue (is_at_cue s.show a) = found_has (is_at_cue s.show) (has_number p) s.live a r.at e in
    let b_at : IsTrue (is_at_cue s.show b) = found_has (is_at_cue s.show) (has_number q) s.live b r.at f in
    let parts = there_are_parts a (parts_of s.show a.cue) a_at in
    let devices : devices_of a.answers ≡ devices_of b.answers =
    at_parts a (parts_of s.show a.cue) parts.0 parts.1 a_at
    ∙ sym (at_parts b (parts_of s.show b.cue) parts.0 (ap (parts_of s.show) (sym cue) ∙ parts.1) b_at) in
    let some : IsTrue (has_required a.answers) =
    (attempt_rules a (found_has is_attempt (has_number p) s.live a (attempts_of s.live r.live) e)).required in
    by devices some (two_found goes_before (has_number p) (has_number q) s.live a b (order_of s.live r.live) e f)
  where
    a_number : a.seq ≡ p
    a_number = same a.seq p (found_passes (has_number p) s.live a e)

    b_number : b.seq ≡ q
    b_number = same b.seq q (found_passes (has_number q) s.live b f)

    by : devices_of a.answers ≡ devices_of b.answers → IsTrue (has_required a.answers)
        → (a ≡ b) ⊎ (IsTrue (goes_before a b) ⊎ IsTrue (goes_before b a)) → p ≡ q
    by devices some (inl one) = sym a_number ∙ ap (λ (x : Attempt). x.seq) one ∙ b_number
    by devices some (inr (inl first)) =
        absurd (not_disjoint a.answers some (subst (λ (ds : List ℕ). IsTrue (disjoint (devices_of a.answers) ds))
        (sym devices) (both (nat_lt a.seq b.seq) (disjoint (devices_of a.answers) (devices_of b.answers)) first).1))
    by devices some (inr (inr first)) =
        absurd (not_disjoint a.answers some (subst (λ (ds : List ℕ). IsTrue (disjoint ds (devices_of a.answers)))
        (sym devices) (both (nat_lt b.seq a.seq) (disjoint (devices_of b.answers) (devices_of a.answers)) first).1))

-- ---- by events from the first state on

-- the events are a history
abbrev pub IsHistory : List Event → Type 0
IsHistory es = IsTrue (is_history (onto es []))

-- after the events the attempt p is live as a
abbrev pub LivesAs : List Event → ℕ → Attempt → Type 0
LivesAs es p a = attempt_of (after_events empty_state es).live p ≡ Some a

pub front_is : (xs ys : List Event) → IsHistory (xs ++ ys) → IsHistory xs
front_is xs ys h = history_before ys (onto xs [])
    (subst (λ (es : List Event). IsTrue (is_history es)) (onto-append xs ys []) h)

by_history : (xs : List Event) (P : ShowState → Type 0) → P (after_events empty_state xs) → P (state_of (onto xs []))
by_history xs P k = subst P (sym (state-onto [] xs)) k

pub state_at : (xs : List Event) → IsHistory xs → IsTrue (is_state (after_events empty_state xs))
state_at xs h = subst (λ (s : ShowState). IsTrue (is_state s)) (state-onto [] xs) (is_state-history (onto xs []) h)

any_from : (t : Event → Bool) (es past : List Event) → list_any t (onto es past) ≡ true
    → (list_any t es ≡ true) ⊎ (list_any t past ≡ true)
any_from t [] past h = inr h
any_from t (e ∷ es) past h = by (any_from t es (e ∷ past) h)
  where
    here : (b : Bool) → (b || list_any t past) ≡ true
        → ((b || list_any t es) ≡ true) ⊎ (list_any t past ≡ true)
    here true k = inl refl
    here false k = inr k

    by : (list_any t es ≡ true) ⊎ (list_any t (e ∷ past) ≡ true)
        → (list_any t (e ∷ es) ≡ true) ⊎ (list_any t past ≡ true)
    by (inl k) = inl (or_right (t e) _ k)
    by (inr k) = here (t e) k

begun_at : (xs : List Event) (p : ℕ) (a : Attempt) → IsHistory xs → LivesAs xs p a
    → (list_any (is_start_of p) (onto xs []) ≡ true) × (a.cue ≡ cue_by (onto xs []) p)
begun_at xs p a h live =
    let past : List Event = onto xs [] in
    let found_it : attempt_of (state_of past).live p ≡ Some a =
    by_history xs (λ s. attempt_of s.live p ≡ Some a) live in
    let number : a.seq ≡ p = same a.seq p (found_passes (has_number p) (state_of past).live a found_it) in
    let begun : IsBegun past (state_of past).show a =
    found_one (IsBegun past (state_of past).show) (has_number p) (state_of past).live a (begun-history past h) found_it in (
      subst (λ (n : ℕ). list_any (is_start_of n) past ≡ true) number begun.0,
      begun.1 ∙ ap (cue_by past) number,
    )

started_by : (xs : List Event) (p : ℕ) (a : Attempt) → IsHistory xs → LivesAs xs p a
    → list_any (is_start_of p) xs ≡ true
started_by xs p a h live = by (any_from (is_start_of p) xs [] (begun_at xs p a h live).0)
  where
    by : (list_any (is_start_of p) xs ≡ true) ⊎ (false ≡ true) → list_any (is_start_of p) xs ≡ true
    by (inl k) = k
    by (inr k) = absurd (true≢false (sym k))

-- an attempt that has started does not start again
no_more : (xs ys : List Event) (p : ℕ) (a : Attempt) → IsHistory (xs ++ ys) → LivesAs xs p a
    → list_any (is_start_of p) ys ≡ false
no_more xs ys p a h live =
    no_start p ys (onto xs []) (subst (λ (es : List Event). IsTrue (is_history es)) (onto-append xs ys []) h)
    (begun_at xs p a (front_is xs ys h) live).0

-- and it stays at its cue
same_cue : (xs ys : List Event) (p : ℕ) (a b : Attempt) → IsHistory (xs ++ ys) → LivesAs xs p a
    → LivesAs (xs ++ ys) p b → a.cue ≡ b.cue
same_cue xs ys p a b h first second =
    (begun_at xs p a (front_is xs ys h) first).1 ∙ sym (cue_stays p ys (onto xs []) (no_more xs ys p a h first))
    ∙ ap (λ (es : List Event). cue_by es p) (sym (onto-append xs ys [])) ∙ sym (begun_at (xs ++ ys) p b h second).1

-- what is live was live before, or has started since
live_before : (xs ys : List Event) (q : ℕ) (b : Attempt) → IsHistory (xs ++ ys) → LivesAs (xs ++ ys) q b
    → (list_any (is_start_of q) ys ≡ true) ⊎ ((c : Attempt) × LivesAs xs q c)
live_before xs ys q b h live = by (is_live_in s q) refl now
  where
    s : ShowState
    s = after_events empty_state xs

    there : attempt_of (after_events s ys).live q ≡ Some b
    there = subst (λ (t : ShowState). attempt_of t.live q ≡ Some b) (after_events-append empty_state xs ys) live

    now : (is_live_in s q || list_any (is_start_of q) ys) ≡ true
    now = live-by-start s ys q
        (subst (λ (n : ℕ). IsTrue (is_live_in (after_events s ys) n))
        (same b.seq q (found_passes (has_number q) (after_events s ys).live b there))
        (found_holds (has_number q) (λ a. true) (after_events s ys).live b there refl))

    by : (c : Bool) → is_live_in s q ≡ c → (c || list_any (is_start_of q) ys) ≡ true
        → (list_any (is_start_of q) ys ≡ true) ⊎ ((c : Attempt) × LivesAs xs q c)
    by true is k =
        let f = found q (λ a. true) s.live (rises_of s.live (rules_of s (state_at xs (front_is xs ys h))).live) is in
        inr (f.0, f.1)
    by false is k = inl k

-- ---- around a start

record AroundStart (q : ℕ) (es : List Event) : Type 0 where
  pub before : List Event
  pub cue : List ℕ
  pub deadline : ℕ
  pub later : List Event
  pub split : es ≡ before ++ event.Start q cue deadline ∷ later

one_before : (q : ℕ) (e : Event) (es : List Event) → AroundStart q es → AroundStart q (e ∷ es)
one_before q e es a = record {
  before = e ∷ a.before;
  cue = a.cue;
  deadline = a.deadline;
  later = a.later;
  split = ap (λ (xs : List Event). e ∷ xs) a.split;
}

around_start : (q : ℕ) (es : List Event) → list_any (is_start_of q) es ≡ true → AroundStart q es
around_start q [] h = absurd (true≢false (sym h))
around_start q (event.Start p c t ∷ es) h = by (nat_eq p q) refl h (λ k. around_start q es k)
  where
    by : (b : Bool) → nat_eq p q ≡ b → (b || list_any (is_start_of q) es) ≡ true
        → (list_any (is_start_of q) es ≡ true → AroundStart q es) → AroundStart q (event.Start p c t ∷ es)
    by true e k f = record {
      before = [];
      cue = c;
      deadline = t;
      later = es;
      split = ap (λ (n : ℕ). event.Start n c t ∷ es) (same p q e);
    }
    by false e k f = one_before q (event.Start p c t) es (f k)
around_start q (e ∷ es) h = one_before q e es (around_start q es h)

-- ---- two attempts of a cue

-- if both live, they are one
both_live : (xs : List Event) (p q : ℕ) (a b : Attempt) → IsHistory xs → LivesAs xs p a → LivesAs xs q b
    → a.cue ≡ b.cue → p ≡ q
both_live xs p q a b h e f cue = one_at_cue (after_events empty_state xs) p q a b (state_at xs h) e f cue

-- p is live after the first events, and q after more of them, at the same cue: p is q, or had ended when q started
module _ (xs ys zs : List Event) (p q : ℕ) (a b : Attempt) (h : IsHistory ((xs ++ ys) ++ zs))
    (first : LivesAs xs p a) (second : LivesAs (xs ++ ys) q b) (cue : a.cue ≡ b.cue) where
  here : IsHistory (xs ++ ys)
  here = front_is (xs ++ ys) zs h

  ended : nat_eq p q ≡ false → (m : AroundStart q ys) → EndedBefore ((xs ++ ys) ++ zs) p q
  ended other m = record {
    before = xs ++ m.before;
    cue = m.cue;
    deadline = m.deadline;
    later = m.later ++ zs;
    split = ap (λ (es : List Event). es ++ zs) whole ∙ append_assoc (xs ++ m.before) (start ∷ m.later) zs;
    started = any-append (is_start_of p) xs m.before
        ∙ or_left (list_any (is_start_of p) xs) _ (started_by xs p a (front_is xs ys here) first);
    gone = by (attempt_of (after_events empty_state begun).live p) refl;
  }
    where
      start : Event
      start = event.Start q m.cue m.deadline

      begun : List Event
      begun = (xs ++ m.before) ++ start ∷ []

      whole : xs ++ ys ≡ (xs ++ m.before) ++ start ∷ m.later
      whole = ap (λ (es : List Event). xs ++ es) m.split ∙ sym (append_assoc xs m.before (start ∷ m.later))

      parted : xs ++ ys ≡ begun ++ m.later
      parted = whole ∙ sym (append_assoc (xs ++ m.before) (start ∷ []) m.later)

      all : IsHistory (begun ++ m.later)
      all = subst (λ (es : List Event). IsHistory es) parted here

      q_later : LivesAs (begun ++ m.later) q b
      q_later = subst (λ (es : List Event). LivesAs es q b) parted second

      again : IsHistory (xs ++ (m.before ++ start ∷ []))
      again = subst (λ (es : List Event). IsHistory es) (append_assoc xs m.before (start ∷ []))
          (front_is begun m.later all)

      is_start : list_any (is_start_of q) begun ≡ true
      is_start = any-append (is_start_of q) (xs ++ m.before) (start ∷ [])
          ∙ or_right (list_any (is_start_of q) (xs ++ m.before)) _ (or_left (nat_eq q q) false (itself q))

      both_there : (c e : Attempt) → LivesAs begun p c → LivesAs begun q e → ⊥
      both_there c e p_there q_there =
          let p_cue : a.cue ≡ c.cue =
          same_cue xs (m.before ++ start ∷ []) p a c again first
          (subst (λ (es : List Event). LivesAs es p c) (append_assoc xs m.before (start ∷ [])) p_there) in
          let q_cue : e.cue ≡ b.cue = same_cue begun m.later q e b all q_there q_later in
          let one : p ≡ q =
          both_live begun p q c e (front_is begun m.later all) p_there q_there (sym p_cue ∙ cue ∙ sym q_cue) in
          true≢false (sym (subst (λ (n : ℕ). nat_eq n q ≡ true) (sym one) (itself q)) ∙ other)

      started_once : list_any (is_start_of q) m.later ≡ true → ⊥
      started_once k =
          true≢false (sym k ∙ no_start q m.later (onto begun [])
          (subst (λ (es : List Event). IsTrue (is_history es)) (onto-append begun m.later []) all)
          (begun_of is_start))
        where
          begun_of : list_any (is_start_of q) begun ≡ true → list_any (is_start_of q) (onto begun []) ≡ true
          begun_of e = any_first (is_start_of q) begun e

      with_q : (c : Attempt) → LivesAs begun p c
          → (list_any (is_start_of q) m.later ≡ true) ⊎ ((e : Attempt) × LivesAs begun q e) → ⊥
      with_q c p_there (inl k) = started_once k
      with_q c p_there (inr k) = both_there c k.0 p_there k.1

      by : (o : Option Attempt) → attempt_of (after_events empty_state begun).live p ≡ o
          → attempt_of (after_events empty_state begun).live p ≡ None
      by None is = is
      by (Some c) is = absurd (with_q c is (live_before begun m.later q b all q_later))

  pub is_for : IsFor ((xs ++ ys) ++ zs) p q
  is_for = by (nat_eq p q) refl
    where
      apart : nat_eq p q ≡ false → (list_any (is_start_of q) ys ≡ true) ⊎ ((c : Attempt) × LivesAs xs q c)
          → IsFor ((xs ++ ys) ++ zs) p q
      apart other (inl k) = inr (ended other (around_start q ys k))
      apart other (inr k) =
          let q_cue : k.0.cue ≡ b.cue = same_cue xs ys q k.0 b here k.1 second in
          inl (both_live xs p q a k.0 (front_is xs ys here) first k.1 (cue ∙ sym q_cue))

      by : (c : Bool) → nat_eq p q ≡ c → IsFor ((xs ++ ys) ++ zs) p q
      by true is = inl (same p q is)
      by false is = apart is (live_before xs ys q b here second)
