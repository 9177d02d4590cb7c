-- A tick orders all who are awaited.
use Rattle.std.proofs.Common.{◌≡◌, ℕ, Bool, true, false, ◌||◌, List, [], ◌∷◌, map, filter, refl, sym, ap, ◌∙◌, subst}
use Rattle.std.proofs.Common.{true≢false, Option, Some, IsTrue, inl}
use Rattle.std.specs.Prelude.{unwrap_or}
use Rattle.std.specs.List.{Contains, list_any}
use Rattle.cue_exchange.specs.declared.attempt.Attempt.{Attempt}
use Rattle.cue_exchange.specs.declared.attempt.Reason.{Reason}
use Rattle.cue_exchange.specs.declared.attempt.Reason.TheVariants.{Deadline}
use Rattle.cue_exchange.specs.declared.attempt.Stage.{Stage}
use Rattle.cue_exchange.specs.declared.attempt.Stage.TheVariants.{Preparing, Decided, Cancelling}
use Rattle.cue_exchange.specs.Answers.{is_cancelling, is_decided}
use Rattle.cue_exchange.specs.Live.{attempt_of, has_number, is_due}
use Rattle.cue_core.specs.declared.event.Event.{Event}
use Rattle.cue_core.specs.declared.event.Event.TheVariants as event
use Rattle.cue_core.specs.Happenings.{ticked, events_at}
use Rattle.cue_core.specs.Pending.{Order, cancel, go_2pc, order_at, pending}
use Rattle.cue_core.specs.Safety.{is_order_to}
use Rattle.cue_core.specs.State.{ShowState, is_state}
use Rattle.cue_core.specs.Steps.{acceptable, after, after_events, are_acceptable}
use Rattle.cue_core.proofs.lists.ConditionLemmas.{both, same_number}
use Rattle.cue_show.specs.Show.{port_of}
use Rattle.cue_core.proofs.live.FindingLemmas.{found, found_passes, rising}
use Rattle.cue_core.proofs.rules.AtCueLemmas.{rises_of}
use Rattle.cue_core.proofs.rules.BatchLemmas.{is_state-after_events}
use Rattle.cue_core.proofs.rules.RuleLemmas.{is_state-after, rules_of}
use Rattle.cue_outbox.specs.Sending.{Send, order, orders}
use Rattle.cue_engine.specs.Given.{given_of, tick}
use Rattle.cue_engine.proofs.HistoryLemmas.{tick-ok}
use Rattle.cue_show.specs.Devices.{is_among}
use Rattle.cue_stage.specs.Waiting.{awaited, is_settled}
use Rattle.cue_stage.specs.Going.{ATickOrdersAllWhoAreAwaited, is_sent}
use Rattle.cue_stage.proofs.AwaitedLemmas.{awaited_in, cancel_untouched, event_waits, settled_parts}
use Rattle.cue_stage.proofs.OrderedLemmas.{any_pending, contains_mapped, order_now, order_pending, port_to}
use Rattle.cue_stage.proofs.KeepingLemmas.{keeps_port}

-- ---- the orders, as what is sent

sent_orders : (test : Order → Bool) (os : List (ℕ × Order))
    → is_sent test (orders os) ≡ list_any (λ (o : ℕ × Order). test o.1) os
sent_orders test [] = refl
sent_orders test (o ∷ os) = ap (λ b. test o.1 || b) (sent_orders test os)

pub tick_sends : (s : ShowState) (now : ℕ)
    → (given_of s now tick).sends ≡ orders (pending (after_events s (events_at s (ticked now))))
unfolding given_of
tick_sends s now = refl

pub tick_batch : (s : ShowState) (now : ℕ) → (given_of s now tick).batch ≡ events_at s (ticked now)
unfolding given_of
tick_batch s now = refl

-- who is awaited after a tick is sent the order of the stage, at its port
pub tick_orders : (s : ShowState) (now q d port : ℕ) (a : Attempt) → (o : Order)
    → attempt_of (after_events s (events_at s (ticked now))).live q ≡ Some a
    → IsTrue (is_among d (awaited (after_events s (events_at s (ticked now))) q))
    → port_of (after_events s (events_at s (ticked now))).show d ≡ Some port
    → (order_now (after_events s (events_at s (ticked now))) a d).1 ≡ o
    → Contains (given_of s now tick).sends (port, order o)
tick_orders s now q d port a o e m there is =
    let t : ShowState = after_events s (events_at s (ticked now)) in
    let at : port_to t d ≡ port = ap (λ (p : Option ℕ). unwrap_or p 0) there in
    let sent : Contains (orders (pending t)) (port_to t d, order (order_now t a d).1) =
    contains_mapped (λ (p : ℕ × Order). (p.0, order p.1)) (order_now t a d) (pending t) (order_pending t q d a e m) in
    subst (λ (ms : List (ℕ × Send)). Contains ms (port, order o)) (sym (tick_sends s now))
    (subst (λ (n : ℕ). Contains (orders (pending t)) (n, order o)) at
    (subst (λ (p : Order). Contains (orders (pending t)) (port_to t d, order p)) is sent))

-- ---- a tick leaves what is settled

cancels_leave : (r : Reason) (todo : List Attempt) (s : ShowState) (q : ℕ) → IsTrue (is_state s)
    → IsTrue (are_acceptable s (map (λ a. event.Cancel a.seq r) todo)) → IsTrue (is_settled s q)
    → attempt_of (after_events s (map (λ a. event.Cancel a.seq r) todo)).live q ≡ attempt_of s.live q
cancels_leave r [] s q h ok c = refl
cancels_leave r (a ∷ todo) s q h ok c =
    let e : Event = event.Cancel a.seq r in
    let p = both (acceptable s e) (are_acceptable (after s e) (map (λ b. event.Cancel b.seq r) todo)) ok in
    cancels_leave r todo (after s e) q (is_state-after s e h p.0) p.1 (event_waits s e q h p.0 c).settled
    ∙ (cancel_untouched s a.seq r q h p.0 (settled_parts s q c).1).same

pub tick_leaves : (s : ShowState) (now q : ℕ) → IsTrue (is_state s) → IsTrue (is_settled s q)
    → attempt_of (after_events s (events_at s (ticked now))).live q ≡ attempt_of s.live q
tick_leaves s now q h c = cancels_leave Deadline (filter (is_due now) s.live) s q h (tick-ok s now h) c

-- ---- the law

decided_order : (stage : Stage) (q d : ℕ) (cue bytes : List ℕ) → IsTrue (is_decided stage)
    → order_at stage q d cue bytes ≡ go_2pc q d
decided_order Decided q d cue bytes h = refl
decided_order Preparing q d cue bytes h = absurd (true≢false (sym h))
decided_order (Cancelling r) q d cue bytes h = absurd (true≢false (sym h))

cancelling_order : (stage : Stage) (q d : ℕ) (cue bytes : List ℕ) → IsTrue (is_cancelling stage)
    → order_at stage q d cue bytes ≡ cancel q d
cancelling_order (Cancelling r) q d cue bytes h = refl
cancelling_order Preparing q d cue bytes h = absurd (true≢false (sym h))
cancelling_order Decided q d cue bytes h = absurd (true≢false (sym h))

pub own_number : (s : ShowState) (q : ℕ) (a : Attempt) → attempt_of s.live q ≡ Some a → a.seq ≡ q
own_number s q a e = same_number a.seq q (found_passes (has_number q) s.live a e)

pub a_tick_orders_all_who_are_awaited : ATickOrdersAllWhoAreAwaited
a_tick_orders_all_who_are_awaited s now q h c = record {
  whom = λ d. ap (is_sent (is_order_to q d)) (tick_sends s now) ∙ sent_orders (is_order_to q d) (pending after_tick)
      ∙ any_pending after_tick q d rules ∙ ap (is_among d) keeps;
  go = λ d port k m there.
      let at = found q (λ a. is_decided a.stage) s.live rises k in
      placed d port at.0 (go_2pc q d) (same ∙ at.1) m there
      (decided_order at.0.stage at.0.seq d _ _ at.2 ∙ ap (λ (n : ℕ). go_2pc n d) (own_number s q at.0 at.1));
  cancel = λ d port k m there.
      let at = found q (λ a. is_cancelling a.stage) s.live rises k in
      placed d port at.0 (cancel q d) (same ∙ at.1) m there
      (cancelling_order at.0.stage at.0.seq d _ _ at.2 ∙ ap (λ (n : ℕ). cancel n d) (own_number s q at.0 at.1));
  same = ap (λ es. attempt_of (after_events s es).live q) (tick_batch s now) ∙ same;
}
  where
    after_tick : ShowState
    after_tick = after_events s (events_at s (ticked now))

    rises : IsTrue (rising s.live)
    rises = rises_of s.live (rules_of s h).live

    rules : IsTrue (is_state after_tick)
    rules = is_state-after_events s (events_at s (ticked now)) h (tick-ok s now h)

    same : attempt_of after_tick.live q ≡ attempt_of s.live q
    same = tick_leaves s now q h c

    keeps : awaited after_tick q ≡ awaited s q
    keeps = ap awaited_in same

    placed : (d port : ℕ) (a : Attempt) (o : Order) → attempt_of after_tick.live q ≡ Some a
        → IsTrue (is_among d (awaited s q)) → port_of s.show d ≡ Some port → (order_now after_tick a d).1 ≡ o
        → Contains (given_of s now tick).sends (port, order o)
    placed d port a o e m there is =
        let awaits : IsTrue (is_among d (awaited after_tick q)) = ap (is_among d) keeps ∙ m in
        tick_orders s now q d port a o e awaits
        (keeps_port s (events_at s (ticked now)) q d h (tick-ok s now h) (settled_parts s q c).0 (inl c) awaits ∙ there) is
