-- An attempt that is not asked anew in between: it was settled before, or is still prepared after.
use Rattle.std.proofs.Common.{◌≡◌, ◌⊎◌, inl, inr, ℕ, ◌+◌, Bool, true, false, List, [], ◌∷◌, map, nat_eq, nat_le, refl}
use Rattle.std.proofs.Common.{sym, ap, ◌∙◌, subst, arith, true≢false, Option, None, Some, IsTrue}
use Rattle.std.specs.Prelude.{if◌then◌else◌}
use Rattle.std.proofs.lemmas.Bool.Decides.{nat_tests}
use Rattle.cue_show.specs.Devices.{is_among}
use Rattle.cue_show.specs.Show.{port_of}
use Rattle.cue_exchange.specs.declared.attempt.Answer.{Answer}
use Rattle.cue_exchange.specs.declared.attempt.Answer.TheVariants as answer
use Rattle.cue_exchange.specs.declared.attempt.Attempt.{Attempt}
use Rattle.cue_exchange.specs.declared.attempt.Stage.{Stage}
use Rattle.cue_exchange.specs.declared.attempt.Stage.TheVariants.{Preparing, Decided, Cancelling}
use Rattle.cue_exchange.specs.Answers.{is_cancelling, is_concluding, is_decided, is_preparing, is_waiting, some_waits}
use Rattle.cue_exchange.specs.Live.{attempt_of}
use Rattle.cue_exchange.specs.Steps.{after_answer, answers_as, holds, moves_to, new_attempt, waits_in}
use Rattle.cue_exchange.proofs.LookUpLemmas.{attempt_of-push_other}
use Rattle.cue_core.specs.declared.event.Event.{Event}
use Rattle.cue_core.specs.declared.event.Event.TheVariants as event
use Rattle.cue_core.specs.State.{ShowState, cue_parts, is_state}
use Rattle.cue_core.specs.Steps.{acceptable, after, after_events, after_last_answer, are_acceptable}
use Rattle.cue_core.proofs.lists.ConditionLemmas.{both, join, same_number}
use Rattle.cue_core.proofs.live.FindingLemmas.{attempt_of-without_ended_other, found, found-changed, found-others}
use Rattle.cue_core.proofs.rules.AtCueLemmas.{rises_of}
use Rattle.cue_core.proofs.rules.RuleLemmas.{is_state-after, rules_of}
use Rattle.cue_stage.specs.Waiting.{IsPreparing, awaited, is_settled, without}
use Rattle.cue_stage.proofs.AwaitedLemmas.{GoesOn, among_without, awaited_in, concludes, event_goes_on, event_waits}
use Rattle.cue_stage.proofs.AwaitedLemmas.{last_rises, nobody_is_awaited_again, settled_parts, waits_without}
use Rattle.cue_stage.proofs.PortLemmas.{event_port, in_table}

-- ---- prepared, or settled

pub never_settled : {A : Type 0} (q : ℕ) (s : ShowState) → IsPreparing q s → IsTrue (is_settled s q) → A
never_settled q s p c =
    let late : IsTrue (is_concluding p.attempt.stage) =
    subst (λ (o : Option Attempt). IsTrue (concludes o)) p.found (settled_parts s q c).1 in
    absurd (true≢false (sym (subst (λ (t : Stage). IsTrue (is_concluding t)) p.stage late)))

one_or_other : (s : ShowState) (q : ℕ) → IsTrue (nat_le q s.last_seq) → IsPreparing q s ⊎ IsTrue (is_settled s q)
one_or_other s q n = by (attempt_of s.live q) refl
  where
    at : (a : Attempt) (stage : Stage) → a.stage ≡ stage → attempt_of s.live q ≡ Some a
        → IsPreparing q s ⊎ IsTrue (is_settled s q)
    at a Preparing is e = inl (record { attempt = a; found = e; stage = is })
    at a Decided is e = inr (join (nat_le q s.last_seq) _ n (rw (e, is) refl))
    at a (Cancelling r) is e = inr (join (nat_le q s.last_seq) _ n (rw (e, is) refl))

    by : (o : Option Attempt) → attempt_of s.live q ≡ o → IsPreparing q s ⊎ IsTrue (is_settled s q)
    by None e = inr (join (nat_le q s.last_seq) _ n (rw e refl))
    by (Some a) e = at a a.stage refl e

-- what is prepared after events was so before them
pub prepared_before : (s : ShowState) (es : List Event) (q : ℕ) → IsTrue (is_state s) → IsTrue (are_acceptable s es)
    → IsTrue (nat_le q s.last_seq) → IsPreparing q (after_events s es) → IsPreparing q s
prepared_before s es q h ok n p = by (one_or_other s q n)
  where
    by : IsPreparing q s ⊎ IsTrue (is_settled s q) → IsPreparing q s
    by (inl r) = r
    by (inr c) = never_settled q (after_events s es) p (nobody_is_awaited_again s es q h ok c).settled

-- ---- one event, while the attempt is prepared

-- the attempt is as it was, or one of its devices has answered and is awaited no more
record Answered (q : ℕ) (old new : ShowState) : Type 0 where
  device : ℕ
  less : awaited new q ≡ without device (awaited old q)

abbrev StaysPrepared : ℕ → ShowState → ShowState → Type 0
StaysPrepared q old new = (attempt_of new.live q ≡ attempt_of old.live q) ⊎ Answered q old new

-- another attempt is changed, or this one
changed : (m q : ℕ) (f : Attempt → Attempt) (s new : ShowState) → ((a : Attempt) → (f a).seq ≡ a.seq)
    → new.live ≡ map (λ a. if nat_eq a.seq m then f a else a) s.live → (p : IsPreparing q s)
    → (attempt_of new.live q ≡ Some (f p.attempt) → StaysPrepared q s new) → StaysPrepared q s new
changed m q f s new keeps is p g = by (nat_eq m q) refl
  where
    by : (b : Bool) → nat_eq m q ≡ b → StaysPrepared q s new
    by true e =
        g (ap (λ live. attempt_of live q) (subst (λ (n : ℕ). new.live ≡ map (λ a. if nat_eq a.seq n then f a else a)
        s.live) (same_number m q e) is)
        ∙ found-changed q f keeps s.live p.attempt p.found)
    by false e = inl (ap (λ live. attempt_of live q) is ∙ found-others m q f keeps s.live e)

answered : (m q d : ℕ) (x : Answer) (s new : ShowState) → is_waiting x ≡ false
    → new.live ≡ after_answer m d x s.live → IsPreparing q s → StaysPrepared q s new
answered m q d x s new good is p =
    changed m q (answers_as d x) s new (λ a. refl) is p
    (λ e. inr (record {
      device = d;
      less = ap awaited_in e ∙ waits_without d x p.attempt.answers good ∙ ap (without d) (sym (ap awaited_in p.found));
    }))

moved : (m q : ℕ) (stage : Stage) (s new : ShowState) → is_preparing stage ≡ false
    → new.live ≡ map (λ a. if nat_eq a.seq m then moves_to stage a else a) s.live → IsPreparing q s → IsPreparing q new
    → StaysPrepared q s new
moved m q stage s new late is p r =
    changed m q (moves_to stage) s new (λ a. refl) is p
    (λ e.
    let same : moves_to stage p.attempt ≡ r.attempt = some_one (sym e ∙ r.found) in
    let now : stage ≡ Preparing = ap (λ (a : Attempt). a.stage) same ∙ r.stage in
    absurd (true≢false (subst (λ (t : Stage). is_preparing t ≡ false) now late)))
  where
    some_one : {a b : Attempt} → Some a ≡ Some b → a ≡ b
    some_one e = cc

-- no device of it can answer for good
never_last : (m q d : ℕ) (x : Answer) (test : Stage → Bool) (s new : ShowState) → test Preparing ≡ false
    → IsTrue (is_state s) → IsTrue (holds m (waits_in test d) s.live)
    → new ≡ after_last_answer s m (after_answer m d x s.live) → IsPreparing q s → StaysPrepared q s new
never_last m q d x test s new none h k is p = by (nat_eq m q) refl
  where
    some_one : {a b : Attempt} → Some a ≡ Some b → a ≡ b
    some_one e = cc

    by : (b : Bool) → nat_eq m q ≡ b → StaysPrepared q s new
    by true e =
        let at = found q (waits_in test d) s.live (rises_of s.live (rules_of s h).live)
        (subst (λ (n : ℕ). IsTrue (holds n (waits_in test d) s.live)) (same_number m q e) k) in
        let same : at.0 ≡ p.attempt = some_one (sym at.1 ∙ p.found) in
        let now : at.0.stage ≡ Preparing = ap (λ (a : Attempt). a.stage) same ∙ p.stage in
        absurd (true≢false (sym (both (test at.0.stage) _ at.2).0 ∙ ap test now ∙ none))
    by false e = inl (ap (λ (t : ShowState). attempt_of t.live q) is
        ∙ attempt_of-without_ended_other m q (after_answer m d x s.live) e
        ∙ found-others m q (answers_as d x) (λ a. refl) s.live e)

stays_prepared : (s : ShowState) (e : Event) (q : ℕ) → IsTrue (is_state s) → IsTrue (acceptable s e)
    → IsTrue (nat_le q s.last_seq) → IsPreparing q s → IsPreparing q (after s e) → StaysPrepared q s (after s e)
stays_prepared s (event.Start m c t) q h ok n p r =
    inl (attempt_of-push_other q (new_attempt m c t (cue_parts s.show c)) s.live
    (above m (same_number m (s.last_seq + 1) (both (nat_eq m (s.last_seq + 1)) _ ok).0)))
  where
    above : (k : ℕ) → k ≡ s.last_seq + 1 → q ≡ k → ⊥
    above k e f = let g : IsTrue (nat_le q s.last_seq) = n in grind (arith, nat_tests)
stays_prepared s (event.Ready m d) q h ok n p r =
    answered m q d answer.Ready s (after s (event.Ready m d)) refl refl p
stays_prepared s (event.Excuse m d) q h ok n p r =
    answered m q d answer.Excused s (after s (event.Excuse m d)) refl refl p
stays_prepared s (event.Go m) q h ok n p r = moved m q Decided s (after s (event.Go m)) refl refl p r
stays_prepared s (event.Cancel m x) q h ok n p r =
    moved m q (Cancelling x) s (after s (event.Cancel m x)) refl refl p r
stays_prepared s (event.Done m d) q h ok n p r =
    never_last m q d answer.Done is_decided s (after s (event.Done m d)) refl h ok refl p
stays_prepared s (event.LetGo m d) q h ok n p r =
    never_last m q d answer.LetGo is_cancelling s (after s (event.LetGo m d)) refl h ok refl p
stays_prepared s (event.Failed m d) q h ok n p r =
    never_last m q d answer.Failed is_concluding s (after s (event.Failed m d)) refl h ok refl p
stays_prepared s _ q h ok n p r = inl refl

-- ---- whatever events come

-- the attempt was settled before, or is prepared after
abbrev pub Keeps : ℕ → ShowState → ShowState → Type 0
Keeps q old new = IsTrue (is_settled old q) ⊎ IsPreparing q new

pub last_after : (s : ShowState) (es : List Event) (q : ℕ) → IsTrue (are_acceptable s es)
    → IsTrue (nat_le q s.last_seq) → IsTrue (nat_le q (after_events s es).last_seq)
last_after s [] q ok n = n
last_after s (e ∷ es) q ok n =
    let p = both (acceptable s e) (are_acceptable (after s e) es) ok in
    last_after (after s e) es q p.1 (last_rises s e q p.0 n)

-- what is kept over some events is kept over the first of them, and over the others
record Parts (s : ShowState) (e : Event) (es : List Event) (q : ℕ) : Type 0 where
  ok : IsTrue (acceptable s e)
  others : IsTrue (are_acceptable (after s e) es)
  rules : IsTrue (is_state (after s e))
  number : IsTrue (nat_le q (after s e).last_seq)
  first : Keeps q s (after s e)
  rest : Keeps q (after s e) (after_events (after s e) es)

parts : (s : ShowState) (e : Event) (es : List Event) (q : ℕ) → IsTrue (is_state s)
    → IsTrue (are_acceptable s (e ∷ es)) → IsTrue (nat_le q s.last_seq) → Keeps q s (after_events s (e ∷ es))
    → Parts s e es q
parts s e es q h ok n k =
    let p = both (acceptable s e) (are_acceptable (after s e) es) ok in
    let rules = is_state-after s e h p.0 in
    let number = last_rises s e q p.0 n in
    record {
      ok = p.0;
      others = p.1;
      rules = rules;
      number = number;
      first = first_of p.1 rules number k;
      rest = rest_of p.0 k;
    }
  where
    first_of : IsTrue (are_acceptable (after s e) es) → IsTrue (is_state (after s e))
        → IsTrue (nat_le q (after s e).last_seq) → Keeps q s (after_events (after s e) es) → Keeps q s (after s e)
    first_of ok rules m (inl c) = inl c
    first_of ok rules m (inr p) = inr (prepared_before (after s e) es q rules ok m p)

    rest_of : IsTrue (acceptable s e) → Keeps q s (after_events (after s e) es)
        → Keeps q (after s e) (after_events (after s e) es)
    rest_of ok (inl c) = inl (event_waits s e q h ok c).settled
    rest_of ok (inr p) = inr p

event_keeps : (s : ShowState) (e : Event) (q d : ℕ) → IsTrue (is_state s) → IsTrue (acceptable s e)
    → IsTrue (nat_le q s.last_seq) → Keeps q s (after s e) → IsTrue (is_among d (awaited (after s e) q))
    → IsTrue (is_among d (awaited s q))
event_keeps s e q d h ok n (inl c) m = (event_waits s e q h ok c).none_new d m
event_keeps s e q d h ok n (inr r) m =
    by (stays_prepared s e q h ok n (prepared_before s (e ∷ []) q h (join (acceptable s e) true ok refl) n r) r)
  where
    by : StaysPrepared q s (after s e) → IsTrue (is_among d (awaited s q))
    by (inl same) = subst (λ (ds : List ℕ). IsTrue (is_among d ds)) (ap awaited_in same) m
    by (inr w) = among_without w.device d (awaited s q) (subst (λ (ds : List ℕ). IsTrue (is_among d ds)) w.less m)

-- who is awaited after them was awaited before
pub keeps_waiting : (s : ShowState) (es : List Event) (q d : ℕ) → IsTrue (is_state s) → IsTrue (are_acceptable s es)
    → IsTrue (nat_le q s.last_seq) → Keeps q s (after_events s es) → IsTrue (is_among d (awaited (after_events s es) q))
    → IsTrue (is_among d (awaited s q))
keeps_waiting s [] q d h ok n k m = m
keeps_waiting s (e ∷ es) q d h ok n k m =
    let p = parts s e es q h ok n k in
    event_keeps s e q d h p.ok n p.first (keeps_waiting (after s e) es q d p.rules p.others p.number p.rest m)

-- and has its port
pub keeps_port : (s : ShowState) (es : List Event) (q d : ℕ) → IsTrue (is_state s) → IsTrue (are_acceptable s es)
    → IsTrue (nat_le q s.last_seq) → Keeps q s (after_events s es) → IsTrue (is_among d (awaited (after_events s es) q))
    → port_of (after_events s es).show d ≡ port_of s.show d
keeps_port s [] q d h ok n k m = refl
keeps_port s (e ∷ es) q d h ok n k m =
    let p = parts s e es q h ok n k in
    let in_next = keeps_waiting (after s e) es q d p.rules p.others p.number p.rest m in
    keeps_port (after s e) es q d p.rules p.others p.number p.rest m
    ∙ event_port s e d h p.ok (in_table s q d h (event_keeps s e q d h p.ok n p.first in_next))
    (in_table (after s e) q d p.rules in_next)

-- ---- its stage

-- the attempt of which this is a later form, in the same stage
pub record IsOf (s : ShowState) (q : ℕ) (b : Attempt) : Type 0 where
  pub attempt : Attempt
  pub found : attempt_of s.live q ≡ Some attempt
  pub stage : b.stage ≡ attempt.stage

some_open : (a b : Attempt) (w : Bool) → (if w then Some a else None) ≡ Some b → a ≡ b
some_open a b true e = cc
some_open a b false e = absurd cc

settled_back : (q : ℕ) (f : Bool) (old new : ShowState) (b : Attempt) → GoesOn q f old new
    → attempt_of new.live q ≡ Some b → IsOf old q b
settled_back q f old new b (inl w) e = record { attempt = b; found = sym w.same ∙ e; stage = refl }
settled_back q f old new b (inr w) e =
    let now : Attempt = answers_as w.device w.given w.attempt in
    let same : now ≡ b = some_open now b (some_waits now.answers) (sym w.by.makes ∙ e) in
    record { attempt = w.attempt; found = w.by.found; stage = sym (ap (λ (x : Attempt). x.stage) same) }

event_back : (s : ShowState) (e : Event) (q : ℕ) (b : Attempt) → IsTrue (is_state s) → IsTrue (acceptable s e)
    → IsTrue (nat_le q s.last_seq) → Keeps q s (after s e) → attempt_of (after s e).live q ≡ Some b → IsOf s q b
event_back s e q b h ok n (inl c) at =
    settled_back q _ s (after s e) b (event_goes_on s e q h ok n (settled_parts s q c).1) at
event_back s e q b h ok n (inr r) at =
    let p = prepared_before s (e ∷ []) q h (join (acceptable s e) true ok refl) n r in
    let same : r.attempt ≡ b = some_one (sym r.found ∙ at) in
    record {
      attempt = p.attempt;
      found = p.found;
      stage = sym (ap (λ (a : Attempt). a.stage) same) ∙ (r.stage ∙ sym p.stage);
    }
  where
    some_one : {a c : Attempt} → Some a ≡ Some c → a ≡ c
    some_one e = cc

pub keeps_stage : (s : ShowState) (es : List Event) (q : ℕ) (b : Attempt) → IsTrue (is_state s)
    → IsTrue (are_acceptable s es) → IsTrue (nat_le q s.last_seq) → Keeps q s (after_events s es)
    → attempt_of (after_events s es).live q ≡ Some b → IsOf s q b
keeps_stage s [] q b h ok n k e = record { attempt = b; found = e; stage = refl }
keeps_stage s (x ∷ es) q b h ok n k e =
    let p = parts s x es q h ok n k in
    let later : IsOf (after s x) q b = keeps_stage (after s x) es q b p.rules p.others p.number p.rest e in
    let now : IsOf s q later.attempt = event_back s x q later.attempt h p.ok n p.first later.found in
    record { attempt = now.attempt; found = now.found; stage = later.stage ∙ now.stage }
