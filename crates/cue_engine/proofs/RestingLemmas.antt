-- What is sent rests on the state and the events.
use Rattle.std.proofs.Common.{◌≡◌, ℕ, Bool, true, false, not, ◌&&◌, ◌||◌, List, [], ◌∷◌, ◌++◌, None, Some}
use Rattle.std.proofs.Common.{if◌then◌else◌, unwrap_or, refl}
use Rattle.std.specs.List.{list_all, list_any, filter_map, cons_option}
use Rattle.cue_exchange.specs.declared.attempt.Stage.{Stage}
use Rattle.cue_exchange.specs.declared.attempt.Stage.TheVariants.{Preparing, Decided, Cancelling}
use Rattle.cue_exchange.specs.declared.attempt.DeviceAnswer.{DeviceAnswer}
use Rattle.cue_exchange.specs.declared.attempt.Attempt.{Attempt}
use Rattle.cue_exchange.specs.Answers.{is_cancelling, is_decided, waits}
use Rattle.cue_exchange.specs.Steps.{holds}
use Rattle.cue_exchange.proofs.ListLemmas.{all_both}
use Rattle.cue_core.proofs.lists.ConditionLemmas.{both, join}
use Rattle.cue_core.specs.declared.event.Event.{Event}
use Rattle.cue_core.specs.Events.{is_cancel_of, is_go_of, is_start_of}
use Rattle.cue_core.specs.State.{ShowState, cue_parts}
use Rattle.cue_core.specs.Steps.{after_events}
use Rattle.cue_core.specs.Pending.{Order, standby, go_2pc, cancel, order_at, order_for, pending, bytes_for}
use Rattle.cue_show.specs.Show.{port_of}
use Rattle.cue_outbox.specs.Sending.{Send, order, all_pending}
use Rattle.cue_core.specs.Batches.{is_live_in, is_decided_in}
use Rattle.cue_engine.specs.Runs.{run, joined_list, is_cancelling_in, order_rests, send_rests, rests, PendingRests}
use Rattle.cue_engine.specs.Runs.{EachRests}
use Rattle.cue_core.proofs.lists.AnyLemmas.{or_left, or_right, either, gives, given as given_that, any-append, all-flat}
use Rattle.cue_core.proofs.lists.AnyLemmas.{all_implied, all_mapped}
use Rattle.cue_core.proofs.live.CancelLemmas.{each-holds}
use Rattle.cue_core.proofs.history.RestLemmas.{live-by-start, decided-by-go}
use Rattle.cue_engine.proofs.CancellingLemmas.{cancelling-by-cancel}
use Rattle.cue_engine.proofs.SentLemmas.{Each, run-each}
use Rattle.cue_outbox.proofs.ListLemmas.{each_passes}

-- ---- what is pending

-- an attempt of the state after the events is live by the state before or the events
abbrev live_rests : ShowState → List Event → ℕ → Bool
live_rests s es q = is_live_in s q || list_any (is_start_of q) es

-- it is Decided by them, where it is
abbrev decision_rests : ShowState → List Event → Attempt → Bool
decision_rests s es a = not (is_decided a.stage) || (is_decided_in s a.seq || list_any (is_go_of a.seq) es)

-- it is Cancelling by them, where it is
abbrev cancel_rests : ShowState → List Event → Attempt → Bool
cancel_rests s es a = not (is_cancelling a.stage) || (is_cancelling_in s a.seq || list_any (is_cancel_of a.seq) es)

-- an attempt of the state after the events rests on the state before and the events
abbrev attempt_rests : ShowState → List Event → Attempt → Bool
attempt_rests s es a = live_rests s es a.seq && (decision_rests s es a && cancel_rests s es a)

attempts_rest : (s : ShowState) (es : List Event) → list_all (attempt_rests s es) (after_events s es).live ≡ true
attempts_rest s es =
    all_implied (λ a. holds a.seq (λ x. true) live && (decided_holds a && cancelling_holds a)) (attempt_rests s es) one
    live
    (all_both (λ a. holds a.seq (λ x. true) live) (λ a. decided_holds a && cancelling_holds a) live
    (each-holds (λ x. true) live)
    (all_both decided_holds cancelling_holds live (each-holds (λ x. is_decided x.stage) live)
    (each-holds (λ x. is_cancelling x.stage) live)))
  where
    live : List Attempt
    live = (after_events s es).live

    decided_holds : Attempt → Bool
    decided_holds a = not (is_decided a.stage) || holds a.seq (λ x. is_decided x.stage) live

    cancelling_holds : Attempt → Bool
    cancelling_holds a = not (is_cancelling a.stage) || holds a.seq (λ x. is_cancelling x.stage) live

    decided : (a : Attempt) → decided_holds a ≡ true → decision_rests s es a ≡ true
    decided a k = given_that (is_decided a.stage) _ (λ d. decided-by-go s es a.seq (gives (is_decided a.stage) _ k d))

    cancelling : (a : Attempt) → cancelling_holds a ≡ true → cancel_rests s es a ≡ true
    cancelling a k = given_that (is_cancelling a.stage) _
        (λ d. cancelling-by-cancel s es a.seq (gives (is_cancelling a.stage) _ k d))

    one : (a : Attempt) → (holds a.seq (λ x. true) live && (decided_holds a && cancelling_holds a)) ≡ true
        → attempt_rests s es a ≡ true
    one a k =
        let w = both (holds a.seq (λ x. true) live) _ k in
        let v = both (decided_holds a) (cancelling_holds a) w.1 in
        join (live_rests s es a.seq) _ (live-by-start s es a.seq w.0)
        (join (decision_rests s es a) _ (decided a v.0) (cancelling a v.1))

order-rests : (s : ShowState) (es : List Event) (a : Attempt) (d : ℕ) (bytes : List ℕ) → attempt_rests s es a ≡ true
    → order_rests s es (order_at a.stage a.seq d a.cue bytes) ≡ true
order-rests s es a d bytes h =
    let w = both (live_rests s es a.seq) _ h in
    let v = both (decision_rests s es a) (cancel_rests s es a) w.1 in
    by a.stage w.0 v.0 v.1
  where
    by : (stage : Stage) → live_rests s es a.seq ≡ true
        → (not (is_decided stage) || (is_decided_in s a.seq || list_any (is_go_of a.seq) es)) ≡ true
        → (not (is_cancelling stage) || (is_cancelling_in s a.seq || list_any (is_cancel_of a.seq) es)) ≡ true
        → order_rests s es (order_at stage a.seq d a.cue bytes) ≡ true
    by Preparing l g c = l
    by Decided l g c = g
    by (Cancelling r) l g c = join (live_rests s es a.seq) _ l c

answers_rest : (s : ShowState) (es : List Event) (t : ShowState) (a : Attempt) → attempt_rests s es a ≡ true
    → (xs : List DeviceAnswer) → list_all (λ o. order_rests s es o.1) (filter_map (order_for t a) xs) ≡ true
answers_rest s es t a h [] = refl
answers_rest s es t a h (x ∷ xs) = by (waits x) (answers_rest s es t a h xs)
  where
    made : ℕ × Order
    made = (
      unwrap_or (port_of t.show x.device) 0,
      order_at a.stage a.seq x.device a.cue
          (bytes_for x.device (cue_parts t.show a.cue)),
    )

    by : (b : Bool) → list_all (λ o. order_rests s es o.1) (filter_map (order_for t a) xs) ≡ true
        → list_all (λ o. order_rests s es o.1)
        (cons_option (if b then Some made else None) (filter_map (order_for t a) xs)) ≡ true
    by true r = join (order_rests s es made.1) _
        (order-rests s es a x.device (bytes_for x.device (cue_parts t.show a.cue)) h) r
    by false r = r

-- what is pending after the events rests on the state before and on them
pub all_pending_rest : (s : ShowState) (es : List Event)
    → list_all (rests s es) (all_pending (after_events s es)) ≡ true
all_pending_rest s es =
    let rest : ℕ × Order → Bool = λ o. order_rests s es o.1 in
    all_mapped rest (rests s es) (λ o. (o.0, order o.1)) (λ o k. k) (pending (after_events s es))
    (all-flat rest (attempt_rests s es) (λ a. filter_map (order_for (after_events s es) a) a.answers)
    (λ a h. answers_rest s es (after_events s es) a h a.answers) (after_events s es).live (attempts_rest s es))

pub pending_rests : PendingRests
pending_rests s = all_pending_rest s []

-- ---- more events before and after

or_swap : (a b c : Bool) → (a || b) ≡ true → (a || (b || c)) ≡ true
or_swap true b c h = refl
or_swap false b c h = or_left b c h

more-by : (before : Bool) (p : Event → Bool) (es fs : List Event) → (before || list_any p es) ≡ true
    → (before || list_any p (es ++ fs)) ≡ true
more-by before p es fs h = rw any-append (or_swap before _ _ h)

-- more events do not take it away
pub more : (s : ShowState) (es fs : List Event) (m : Send) → send_rests s es m ≡ true → send_rests s (es ++ fs) m ≡ true
more s es fs (order (standby q d c b)) h = more-by (is_live_in s q) (is_start_of q) es fs h
more s es fs (order (go_2pc q d)) h = more-by (is_decided_in s q) (is_go_of q) es fs h
more s es fs (order (cancel q d)) h =
    let w = both (is_live_in s q || list_any (is_start_of q) es) _ h in
    join (is_live_in s q || list_any (is_start_of q) (es ++ fs)) _
    (more-by (is_live_in s q) (is_start_of q) es fs w.0) (more-by (is_cancelling_in s q) (is_cancel_of q) es fs w.1)
more s es fs _ h = refl

-- what is so after the events by them, or by later ones, is so by all of them
earlier-by : (before after : Bool) (p : Event → Bool) (es fs : List Event)
    → (after ≡ true → (before || list_any p es) ≡ true) → (after || list_any p fs) ≡ true
    → (before || list_any p (es ++ fs)) ≡ true
earlier-by before after p es fs by h =
    rw any-append (either after _ _ (λ k. or_swap before _ _ (by k))
    (λ k. or_right before _ (or_right (list_any p es) _ k)) h)

live-earlier : (s : ShowState) (es fs : List Event) (q : ℕ)
    → (is_live_in (after_events s es) q || list_any (is_start_of q) fs) ≡ true
    → (is_live_in s q || list_any (is_start_of q) (es ++ fs)) ≡ true
live-earlier s es fs q = earlier-by (is_live_in s q) (is_live_in (after_events s es) q) (is_start_of q) es fs
    (live-by-start s es q)

-- what rests on a later state rests on the earlier one
pub earlier : (s : ShowState) (es fs : List Event) (m : Send) → send_rests (after_events s es) fs m ≡ true
    → send_rests s (es ++ fs) m ≡ true
earlier s es fs (order (standby q d c b)) h = live-earlier s es fs q h
earlier s es fs (order (go_2pc q d)) h = earlier-by (is_decided_in s q) (is_decided_in (after_events s es) q)
    (is_go_of q) es fs (decided-by-go s es q) h
earlier s es fs (order (cancel q d)) h =
    let w = both (is_live_in (after_events s es) q || list_any (is_start_of q) fs) _ h in
    join (is_live_in s q || list_any (is_start_of q) (es ++ fs)) _ (live-earlier s es fs q w.0)
    (earlier-by (is_cancelling_in s q) (is_cancelling_in (after_events s es) q) (is_cancel_of q) es fs
    (cancelling-by-cancel s es q) w.1)
earlier s es fs _ h = refl

-- ---- whole runs

pub all_rests : (s : ShowState) (es : List Event) (ms : List (ℕ × Send)) → Each (λ m. send_rests s es m ≡ true) ms
    → list_all (rests s es) ms ≡ true
all_rests s es [] h = refl
all_rests s es (m ∷ ms) h = join (rests s es m) _ h.0 (all_rests s es ms h.1)

pub each_rests : EachRests
each_rests s hs = all_rests s (joined_list (run s hs).batches) (run s hs).sends
    (run-each {Fine = λ t. Unit {0}} {R = λ t es m. send_rests t es m ≡ true} (record {
      elsewhere = λ t es. record { answers = λ a m k r c. refl; statuses = λ l p v e o. refl };
      pending = λ t es fine. each_passes (rests t es) (all_pending (after_events t es)) (all_pending_rest t es);
      more = more;
      earlier = earlier;
      fine = λ t x fine. tt;
    }) s hs tt)
