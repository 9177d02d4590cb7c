-- A device that is ordered to move is one of the attempt, and was not excused.
use Rattle.std.proofs.Common.{◌≡◌, ℕ, Bool, true, false, ◌&&◌, ◌||◌, List, [], ◌∷◌, ◌++◌, Some, None, unwrap_or}
use Rattle.std.proofs.Common.{if◌then◌else◌, nat_eq, map, refl, sym, ap, ◌∙◌, subst, true≢false, IsTrue}
use Rattle.std.specs.Prelude.{IfSome}
use Rattle.std.specs.List.{AllByRecursion, Contains, filter_map, list_any}
use Rattle.cue_show.specs.Devices.{is_among}
use Rattle.cue_show.specs.Show.{port_of}
use Rattle.cue_exchange.specs.declared.attempt.Stage.{Stage}
use Rattle.cue_exchange.specs.declared.attempt.Stage.TheVariants.{Preparing, Decided, Cancelling}
use Rattle.cue_exchange.specs.declared.attempt.DeviceAnswer.{DeviceAnswer}
use Rattle.cue_exchange.specs.declared.attempt.Attempt.{Attempt}
use Rattle.cue_exchange.specs.Answers.{answer_passes, devices_of, is_decided, is_preparing, is_waiting, waits}
use Rattle.cue_exchange.specs.Live.{attempt_of, has_number}
use Rattle.cue_exchange.specs.Steps.{can_excuse_now, holds, waits_in}
use Rattle.cue_core.specs.declared.event.Event.{Event}
use Rattle.cue_core.specs.declared.event.Event.TheVariants as event
use Rattle.cue_core.specs.Events.{is_end_of, is_excuse_of, is_go_of}
use Rattle.cue_core.specs.Happenings.{onto}
use Rattle.cue_core.specs.History.{devices_by, is_history, parts_by, state_of}
use Rattle.cue_core.specs.Pending.{Order, standby, go_2pc, cancel, bytes_for, order_at, order_for, pending}
use Rattle.cue_core.specs.State.{ShowState, cue_parts, empty_state}
use Rattle.cue_core.specs.Steps.{acceptable}
use Rattle.cue_core.proofs.history.AttemptLemmas.{waiting_not}
use Rattle.cue_core.proofs.history.FactLemmas.{told_of}
use Rattle.cue_core.proofs.history.TellsLemmas.{Tells, devices_told, is_last}
use Rattle.cue_core.proofs.lists.AnyLemmas.{any-append, either, itself, or_left, or_right, same}
use Rattle.cue_core.proofs.lists.ConditionLemmas.{both, join, neither}
use Rattle.cue_core.proofs.live.FindingLemmas.{found}
use Rattle.cue_core.proofs.rules.BatchLemmas.{onto-append, state-onto}
use Rattle.cue_core.proofs.rules.SoundLemmas.{kept-history, sound-history}
use Rattle.cue_outbox.proofs.ListLemmas.{each_flat, each_found, each_weaker}
use Rattle.cue_engine.specs.Runs.{WasPending}
use Rattle.cue_engine.proofs.AttemptLemmas.{any_in}
use Rattle.cue_stage.proofs.DeliveredLemmas.{each_has}
use Rattle.cue_stage.proofs.StartLemmas.{history_before, no_start, parts_stay}

-- ---- what is pending, by the live attempts

any_each : {X : Type 0} (p : X → Bool) (xs : List X) → AllByRecursion (λ x. p x ≡ true → list_any p xs ≡ true) xs
any_each p [] = tt
any_each p (x ∷ xs) = (
  λ h. or_left (p x) _ h,
  each_weaker (λ y. p y ≡ true → list_any p xs ≡ true) (λ y. p y ≡ true → list_any p (x ∷ xs) ≡ true)
      (λ y f h. or_right (p x) _ (f h)) xs (any_each p xs),
)

-- where the order is a Go of q to d, q is Decided among these, and waits for d
abbrev GoWaits : ℕ → ℕ → List Attempt → Order → Type 0
GoWaits q d live (standby p e c b) = Unit {0}
GoWaits q d live (go_2pc p e) = (nat_eq p q && nat_eq e d) ≡ true → holds q (waits_in is_decided d) live ≡ true
GoWaits q d live (cancel p e) = Unit {0}

order_waits : (q d : ℕ) (live : List Attempt) (a : Attempt) (t : ShowState)
    → ((has_number q a && waits_in is_decided d a) ≡ true → holds q (waits_in is_decided d) live ≡ true)
    → (x : DeviceAnswer)
    → ((nat_eq x.device d && is_waiting x.answer) ≡ true → answer_passes is_waiting d a.answers ≡ true)
    → IfSome (order_for t a x) (λ o. GoWaits q d live o.1)
order_waits q d live a t here x among = by (waits x) refl
  where
    made : (g : Stage) → a.stage ≡ g → waits x ≡ true
        → GoWaits q d live (order_at g a.seq x.device a.cue (bytes_for x.device (cue_parts t.show a.cue)))
    made Preparing at w = tt
    made Decided at w = λ h.
        let k = both (nat_eq a.seq q) (nat_eq x.device d) h in
        here (join (nat_eq a.seq q) _ k.0
        (join (is_decided a.stage) _ (ap is_decided at) (among (join (nat_eq x.device d) _ k.1 w))))
    made (Cancelling r) at w = tt

    by : (b : Bool) → waits x ≡ b
        → IfSome {T = ℕ × Order} (if b then Some (
          unwrap_or (port_of t.show x.device) 0,
          order_at a.stage a.seq x.device a.cue (bytes_for x.device (cue_parts t.show a.cue)),
        ) else None) (λ o. GoWaits q d live o.1)
    by true w = made a.stage refl w
    by false w = tt

all_wait : (q d : ℕ) (t : ShowState) → AllByRecursion (λ o. GoWaits q d t.live o.1) (pending t)
all_wait q d t =
    each_flat (λ a. (has_number q a && waits_in is_decided d a) ≡ true → holds q (waits_in is_decided d) t.live ≡ true)
    (λ o. GoWaits q d t.live o.1) (λ a. filter_map (order_for t a) a.answers)
    (λ a here.
    each_found (λ x. (nat_eq x.device d && is_waiting x.answer) ≡ true → answer_passes is_waiting d a.answers ≡ true)
    (λ o. GoWaits q d t.live o.1) (order_for t a) (λ x k. order_waits q d t.live a t here x k) a.answers
    (any_each (λ x. nat_eq x.device d && is_waiting x.answer) a.answers)) t.live
    (any_each (λ a. has_number q a && waits_in is_decided d a) t.live)

-- where a Go of q to d is pending, q is Decided by the history, and waits for d
record IsGoing (h : List Event) (q d : ℕ) : Type 0 where
  attempt : Attempt
  told : Tells h q attempt
  decided : is_decided attempt.stage ≡ true
  waits : answer_passes is_waiting d attempt.answers ≡ true

is_going : (h : List Event) (q d port : ℕ) → IsTrue (is_history h)
    → Contains (pending (state_of h)) (port, go_2pc q d) → IsGoing h q d
is_going h q d port p there =
    let s : ShowState = state_of h in
    let w : holds q (waits_in is_decided d) s.live ≡ true =
    each_has (λ (o : ℕ × Order). GoWaits q d s.live o.1) (pending s) (port, go_2pc q d) (all_wait q d s) there
    (join (nat_eq q q) _ (itself q) (itself d)) in
    let f = found q (waits_in is_decided d) s.live (sound-history h p).rises w in
    let k = both (is_decided f.0.stage) (answer_passes is_waiting d f.0.answers) f.2 in
    record {
      attempt = f.0;
      told = told_of h q (attempt_of s.live q) f.0 f.1 ((kept-history h p).settles q);
      decided = k.0;
      waits = k.1;
    }

-- ---- one of the attempt

waits_among : (d : ℕ) (xs : List DeviceAnswer) → answer_passes is_waiting d xs ≡ true
    → is_among d (devices_of xs) ≡ true
waits_among d [] h = absurd (true≢false (sym h))
waits_among d (x ∷ xs) h =
    either (nat_eq x.device d && is_waiting x.answer) (answer_passes is_waiting d xs) _
    (λ k. or_left (nat_eq x.device d) _ (both (nat_eq x.device d) (is_waiting x.answer) k).0)
    (λ k. or_right (nat_eq x.device d) _ (waits_among d xs k)) h

-- the history of the first events, and that of all
abbrev pub past_of : List Event → List Event
past_of before = onto before []

pub all_of_them : (es before later : List Event) → es ≡ before ++ later → onto es [] ≡ onto later (past_of before)
all_of_them es before later split = ap (λ (xs : List Event). onto xs []) split ∙ onto-append before later []

-- ---- not excused

-- an excuse is an end
no_excuse : (q d : ℕ) (es : List Event) → list_any (is_end_of q d) es ≡ false → list_any (is_excuse_of q d) es ≡ false
no_excuse q d [] h = refl
no_excuse q d (event.Device e p ∷ es) h = no_excuse q d es h
no_excuse q d (event.NoDevice e ∷ es) h = no_excuse q d es h
no_excuse q d (event.Cue x ps ∷ es) h = no_excuse q d es h
no_excuse q d (event.NoCue x ∷ es) h = no_excuse q d es h
no_excuse q d (event.Place x ∷ es) h = no_excuse q d es h
no_excuse q d (event.Start p x t ∷ es) h = no_excuse q d es h
no_excuse q d (event.Ready p e ∷ es) h = no_excuse q d es h
no_excuse q d (event.Go p ∷ es) h = no_excuse q d es h
no_excuse q d (event.Done p e ∷ es) h =
    no_excuse q d es (neither (nat_eq p q && nat_eq e d) (list_any (is_end_of q d) es) h).1
no_excuse q d (event.Cancel p r ∷ es) h = no_excuse q d es h
no_excuse q d (event.LetGo p e ∷ es) h =
    no_excuse q d es (neither (nat_eq p q && nat_eq e d) (list_any (is_end_of q d) es) h).1
no_excuse q d (event.Failed p e ∷ es) h =
    no_excuse q d es (neither (nat_eq p q && nat_eq e d) (list_any (is_end_of q d) es) h).1
no_excuse q d (event.Excuse p e ∷ es) h =
    let w = neither (nat_eq p q && nat_eq e d) (list_any (is_end_of q d) es) h in rw w.0 (no_excuse q d es w.1)

not_both : {A : Type 0} (g : Stage) → is_preparing g ≡ true → is_decided g ≡ true → A
not_both Preparing h k = absurd (true≢false (sym k))
not_both Decided h k = absurd (true≢false (sym h))
not_both (Cancelling r) h k = absurd (true≢false (sym h))

-- of what was decided nobody is excused
excuse_refused : {A : Type 0} (q d : ℕ) (past : List Event) (e : Event) → IsTrue (is_history past)
    → list_any (is_go_of q) past ≡ true → acceptable (state_of past) e ≡ true → is_excuse_of q d e ≡ true → A
excuse_refused q d past (event.Device e p) h gone ok is = absurd (true≢false (sym is))
excuse_refused q d past (event.NoDevice e) h gone ok is = absurd (true≢false (sym is))
excuse_refused q d past (event.Cue x ps) h gone ok is = absurd (true≢false (sym is))
excuse_refused q d past (event.NoCue x) h gone ok is = absurd (true≢false (sym is))
excuse_refused q d past (event.Place x) h gone ok is = absurd (true≢false (sym is))
excuse_refused q d past (event.Start p x t) h gone ok is = absurd (true≢false (sym is))
excuse_refused q d past (event.Ready p e) h gone ok is = absurd (true≢false (sym is))
excuse_refused q d past (event.Go p) h gone ok is = absurd (true≢false (sym is))
excuse_refused q d past (event.Done p e) h gone ok is = absurd (true≢false (sym is))
excuse_refused q d past (event.Cancel p r) h gone ok is = absurd (true≢false (sym is))
excuse_refused q d past (event.LetGo p e) h gone ok is = absurd (true≢false (sym is))
excuse_refused q d past (event.Failed p e) h gone ok is = absurd (true≢false (sym is))
excuse_refused q d past (event.Excuse p e) h gone ok is =
    let s : ShowState = state_of past in
    let number : p ≡ q = same p q (both (nat_eq p q) (nat_eq e d) is).0 in
    let f = found p (can_excuse_now e) s.live (sound-history past h).rises ok in
    let t : Tells past p f.0 = told_of past p (attempt_of s.live p) f.0 f.1 ((kept-history past h).settles p) in
    let go : list_any (is_go_of p) past ≡ true =
    subst (λ (n : ℕ). list_any (is_go_of n) past ≡ true) (sym number) gone in
    not_both f.0.stage (both (is_preparing f.0.stage) _ f.2).0 (t.decided ∙ go)

no_excuse_later : (q d : ℕ) (es past : List Event) → IsTrue (is_history (onto es past))
    → list_any (is_go_of q) past ≡ true → list_any (is_excuse_of q d) es ≡ false
no_excuse_later q d [] past h gone = refl
no_excuse_later q d (e ∷ es) past h gone =
    by (is_excuse_of q d e) refl (no_excuse_later q d es (e ∷ past) h (or_right (is_go_of q e) _ gone))
  where
    ok : (acceptable (state_of past) e && is_history past) ≡ true
    ok = history_before es (e ∷ past) h

    by : (b : Bool) → is_excuse_of q d e ≡ b → list_any (is_excuse_of q d) es ≡ false
        → (b || list_any (is_excuse_of q d) es) ≡ false
    by true is none =
        let w = both (acceptable (state_of past) e) (is_history past) ok in
        excuse_refused q d past e w.1 gone w.0 is
    by false is none = none

none_of : (a b : Bool) → a ≡ false → b ≡ false → (a || b) ≡ false
none_of true b h k = h
none_of false b h k = k

none_before : (q d : ℕ) (xs : List Event) → list_any (is_excuse_of q d) (past_of xs) ≡ false
    → list_any (is_excuse_of q d) xs ≡ false
none_before q d xs h = by (list_any (is_excuse_of q d) xs) refl
  where
    by : (b : Bool) → list_any (is_excuse_of q d) xs ≡ b → b ≡ false
    by true is = sym (any_in (is_excuse_of q d) xs [] (or_left (list_any (is_excuse_of q d) xs) false is)) ∙ h
    by false is = refl

none_in_all : (es : List Event) (q d : ℕ) (before later : List Event) → es ≡ before ++ later
    → list_any (is_excuse_of q d) (past_of before) ≡ false → list_any (is_excuse_of q d) later ≡ false
    → list_any (is_excuse_of q d) es ≡ false
none_in_all es q d before later split h k = ap (list_any (is_excuse_of q d)) split
    ∙ any-append (is_excuse_of q d) before later
    ∙ none_of (list_any (is_excuse_of q d) before) (list_any (is_excuse_of q d) later) (none_before q d before h) k

-- ---- of an order that was pending

-- a device that is sent a Go of q is one of q, and is never excused in it
pub record IsOfAttempt (es : List Event) (q d : ℕ) : Type 0 where
  pub among : is_among d (devices_by (onto es []) q) ≡ true
  pub not_excused : list_any (is_excuse_of q d) es ≡ false

pub of_pending : (es : List Event) (q d : ℕ) → IsTrue (is_history (onto es [])) → WasPending empty_state es (go_2pc q d)
    → IsOfAttempt es q d
of_pending es q d h was =
    let past : List Event = past_of was.before in
    let all : onto es [] ≡ onto was.later past = all_of_them es was.before was.later was.split in
    let later_ok : IsTrue (is_history (onto was.later past)) =
    subst (λ (xs : List Event). IsTrue (is_history xs)) all h in
    let past_ok : IsTrue (is_history past) = history_before was.later past later_ok in
    let there : Contains (pending (state_of past)) (was.port, go_2pc q d) =
    subst (λ (t : ShowState). Contains (pending t) (was.port, go_2pc q d)) (sym (state-onto [] was.before)) was.there in
    let going : IsGoing past q d = is_going past q d was.port past_ok there in
    let stay : parts_by (onto es []) q ≡ parts_by past q =
    ap (λ (xs : List Event). parts_by xs q) all
    ∙ parts_stay q was.later past (no_start q was.later past later_ok going.told.begun) in
    let among : is_among d (devices_by past q) ≡ true =
    subst (λ (ds : List ℕ). is_among d ds ≡ true) (devices_told past q going.attempt going.told)
    (waits_among d going.attempt.answers going.waits) in
    let none_past : list_any (is_end_of q d) past ≡ false =
    waiting_not is_last refl (λ n. list_any (is_end_of q n) past) d going.attempt.answers going.told.ended
    going.waits in
    let none_later : list_any (is_excuse_of q d) was.later ≡ false =
    no_excuse_later q d was.later past later_ok (sym going.told.decided ∙ going.decided) in
    record {
      among = subst (λ (ps : _). is_among d (map (λ p. p.device) ps) ≡ true) (sym stay) among;
      not_excused = none_in_all es q d was.before was.later was.split (no_excuse q d past none_past) none_later;
    }
