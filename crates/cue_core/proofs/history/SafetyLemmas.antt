-- What a theatre relies on, from what each history tells.
use Rattle.std.proofs.Common.{◌≡◌, ℕ, List, [], ◌∷◌, ◌++◌, refl, Bool, true, false, not, ◌&&◌, ◌||◌, nat_eq, nat_lt}
use Rattle.std.proofs.Common.{None, Some}
use Rattle.std.specs.Prelude.{IsTrue, if◌then◌else◌, unwrap_or}
use Rattle.std.specs.List.{list_all, list_any, filter_map, flat_map, cons_option}
use Rattle.cue_show.specs.Show.{port_of}
use Rattle.cue_exchange.specs.declared.attempt.Stage.{Stage}
use Rattle.cue_exchange.specs.declared.attempt.Stage.TheVariants.{Preparing, Decided, Cancelling}
use Rattle.cue_exchange.specs.declared.attempt.DeviceAnswer.{DeviceAnswer}
use Rattle.cue_exchange.specs.declared.attempt.Attempt.{Attempt}
use Rattle.cue_exchange.specs.Answers.{devices_of, waits, is_waiting, answer_passes, is_decided, is_cancelling}
use Rattle.cue_exchange.specs.Live.{attempt_of, disjoint, goes_before}
use Rattle.cue_exchange.specs.Steps.{holds, waits_in}
use Rattle.cue_exchange.proofs.LiveLemmas.{order_of}
use Rattle.cue_core.specs.declared.event.Event.{Event}
use Rattle.cue_core.specs.declared.event.Event.TheVariants as event
use Rattle.cue_core.specs.State.{ShowState, cue_parts}
use Rattle.cue_core.specs.Steps.{acceptable}
use Rattle.cue_core.specs.Events.{is_start_of, is_go_of, is_cancel_of, is_end_of}
use Rattle.cue_core.specs.History.{state_of, is_history, parts_by}
use Rattle.cue_core.specs.InOrder.{may_go_by, keeps_order, is_in_order}
use Rattle.cue_core.specs.Pending.{Order, order_at, order_for, bytes_for, pending}
use Rattle.cue_core.specs.Safety.{is_go_to, is_cancel_to, is_order_to, asks, asks_to_go, asks_to_cancel, ever}
use Rattle.cue_core.specs.Safety.{NeverAskedBoth, NothingMoreIsAsked, OneHolder, DecidedStays}
use Rattle.cue_core.proofs.lists.ConditionLemmas.{both, same_number, pairwise_from}
use Rattle.cue_core.proofs.live.FindingLemmas.{found}
use Rattle.cue_core.proofs.rules.RuleLemmas.{rules_of}
use Rattle.cue_core.proofs.history.AttemptLemmas.{waiting_not}
use Rattle.cue_core.proofs.history.TellsLemmas.{Tells, is_last}
use Rattle.cue_core.proofs.rules.SoundLemmas.{is_state-history, sound-history, kept-history}
use Rattle.cue_core.proofs.history.FactLemmas.{facts-by-history, go-after-ready, told_of}
use Rattle.cue_show.proofs.TestLemmas.{not_so}

-- an order of an attempt that passes says of what stage the attempt is, and that the device d is still to answer
order_says : (pick : Order → Bool) (stage : Stage → Bool) (q d : ℕ)
    → ((t : Stage) (p e : ℕ) (c b : List ℕ) → IsTrue (pick (order_at t p e c b))
    → IsTrue (nat_eq p q && (stage t && nat_eq e d)))
    → (s : ShowState) (a : Attempt) (xs : List DeviceAnswer)
    → IsTrue (list_any (λ (o : ℕ × Order). pick o.1) (filter_map (order_for s a) xs))
    → IsTrue (nat_eq a.seq q && (stage a.stage && answer_passes is_waiting d xs))
order_says pick stage q d f s a [] h = cc
order_says pick stage q d f s a (x ∷ xs) h = at (waits x) h (order_says pick stage q d f s a xs)
  where
    later : (n g e r : Bool) → IsTrue (n && (g && r)) → IsTrue (n && (g && (e || r)))
    later true true true r k = refl
    later true true false r k = k
    later true false e r k = cc
    later false g e r k = cc

    now : (n g e r : Bool) → IsTrue (n && (g && e)) → IsTrue (n && (g && ((e && true) || r)))
    now true true true r k = refl
    now true true false r k = cc
    now true false e r k = cc
    now false g e r k = cc

    told : (b c : Bool) → (IsTrue b
        → IsTrue (nat_eq a.seq q && (stage a.stage && ((nat_eq x.device d && true) || answer_passes is_waiting d xs))))
        → (IsTrue c → IsTrue (nat_eq a.seq q &&
        (stage a.stage && ((nat_eq x.device d && true) || answer_passes is_waiting d xs)))) → IsTrue (b || c)
        → IsTrue (nat_eq a.seq q && (stage a.stage && ((nat_eq x.device d && true) || answer_passes is_waiting d xs)))
    told true c g k h = g refl
    told false c g k h = k h

    at : (w : Bool) → IsTrue
        (list_any (λ (o : ℕ × Order). pick o.1)
        (cons_option (if w then Some (
          unwrap_or (port_of s.show x.device) 0,
          order_at a.stage a.seq x.device a.cue
              (bytes_for x.device (cue_parts s.show a.cue)),
        ) else None) (filter_map (order_for s a) xs)))
        → (IsTrue (list_any (λ (o : ℕ × Order). pick o.1) (filter_map (order_for s a) xs))
        → IsTrue (nat_eq a.seq q && (stage a.stage && answer_passes is_waiting d xs)))
        → IsTrue (nat_eq a.seq q && (stage a.stage && ((nat_eq x.device d && w) || answer_passes is_waiting d xs)))
    at true h g = told (pick (order_at a.stage a.seq x.device a.cue (bytes_for x.device (cue_parts s.show a.cue))))
        (list_any (λ (o : ℕ × Order). pick o.1) (filter_map (order_for s a) xs))
        (λ k. now (nat_eq a.seq q) (stage a.stage) (nat_eq x.device d) (answer_passes is_waiting d xs)
        (f a.stage a.seq x.device a.cue (bytes_for x.device (cue_parts s.show a.cue)) k))
        (λ k. later (nat_eq a.seq q) (stage a.stage) (nat_eq x.device d && true) (answer_passes is_waiting d xs) (g k))
        h
    at false h g = later (nat_eq a.seq q) (stage a.stage) (nat_eq x.device d && false) (answer_passes is_waiting d xs)
        (g h)

pub any_append : {A : Type 0} (P : A → Bool) (xs ys : List A) → list_any P (xs ++ ys) ≡ (list_any P xs || list_any P ys)
any_append P [] ys = refl
any_append P (x ∷ xs) ys = at (P x) (any_append P xs ys)
  where
    at : (b : Bool) → list_any P (xs ++ ys) ≡ (list_any P xs || list_any P ys)
        → (b || list_any P (xs ++ ys)) ≡ ((b || list_any P xs) || list_any P ys)
    at true e = refl
    at false e = e

-- so does one of the pending orders
pending_says : (pick : Order → Bool) (stage : Stage → Bool) (q d : ℕ)
    → ((t : Stage) (p e : ℕ) (c b : List ℕ) → IsTrue (pick (order_at t p e c b))
    → IsTrue (nat_eq p q && (stage t && nat_eq e d)))
    → (s : ShowState) (live : List Attempt)
    → IsTrue (list_any (λ (o : ℕ × Order). pick o.1) (flat_map (λ a. filter_map (order_for s a) a.answers) live))
    → IsTrue (holds q (waits_in stage d) live)
pending_says pick stage q d f s [] h = h
pending_says pick stage q d f s (a ∷ live) h =
    at (list_any (λ (o : ℕ × Order). pick o.1) (filter_map (order_for s a) a.answers))
    (list_any (λ (o : ℕ × Order). pick o.1) (flat_map (λ b. filter_map (order_for s b) b.answers) live))
    (order_says pick stage q d f s a a.answers) (pending_says pick stage q d f s live)
    (rw (any_append (λ (o : ℕ × Order). pick o.1) (filter_map (order_for s a) a.answers)
    (flat_map (λ b. filter_map (order_for s b) b.answers) live)) at h)
  where
    later : (b c : Bool) → IsTrue c → IsTrue (b || c)
    later true c k = refl
    later false c k = k

    first : (b c : Bool) → IsTrue b → IsTrue (b || c)
    first true c k = refl
    first false c k = cc

    at : (b c : Bool) → (IsTrue b → IsTrue (nat_eq a.seq q && waits_in stage d a))
        → (IsTrue c → IsTrue (holds q (waits_in stage d) live)) → IsTrue (b || c)
        → IsTrue ((nat_eq a.seq q && waits_in stage d a) || holds q (waits_in stage d) live)
    at true c g k m = first (nat_eq a.seq q && waits_in stage d a) (holds q (waits_in stage d) live) (g refl)
    at false c g k m = later (nat_eq a.seq q && waits_in stage d a) (holds q (waits_in stage d) live) (k m)

go_says : (q d : ℕ) (t : Stage) (p e : ℕ) (c b : List ℕ) → IsTrue (is_go_to q d (order_at t p e c b))
    → IsTrue (nat_eq p q && (is_decided t && nat_eq e d))
go_says q d Preparing p e c b h = cc
go_says q d Decided p e c b h = h
go_says q d (Cancelling r) p e c b h = cc

cancel_says : (q d : ℕ) (t : Stage) (p e : ℕ) (c b : List ℕ) → IsTrue (is_cancel_to q d (order_at t p e c b))
    → IsTrue (nat_eq p q && (is_cancelling t && nat_eq e d))
cancel_says q d Preparing p e c b h = cc
cancel_says q d Decided p e c b h = cc
cancel_says q d (Cancelling r) p e c b h = h

told_says : (q d : ℕ) (t : Stage) (p e : ℕ) (c b : List ℕ) → IsTrue (is_order_to q d (order_at t p e c b))
    → IsTrue (nat_eq p q && (true && nat_eq e d))
told_says q d Preparing p e c b h = h
told_says q d Decided p e c b h = h
told_says q d (Cancelling r) p e c b h = h

-- where an order passes, its attempt is live with what the history tells of it, and the device is still to answer
asked_of : (h : List Event) (pick : Order → Bool) (stage : Stage → Bool) (q d : ℕ)
    → ((t : Stage) (p e : ℕ) (c b : List ℕ) → IsTrue (pick (order_at t p e c b))
    → IsTrue (nat_eq p q && (stage t && nat_eq e d)))
    → IsTrue (is_history h) → IsTrue (list_any (λ (o : ℕ × Order). pick o.1) (pending (state_of h)))
    → (a : Attempt) × Tells h q a × IsTrue (stage a.stage) × IsTrue (answer_passes is_waiting d a.answers)
asked_of h pick stage q d says p k =
    let f = found q (waits_in stage d) (state_of h).live (sound-history h p).rises
    (pending_says pick stage q d says (state_of h) (state_of h).live k) in
    let w = both (stage f.0.stage) (answer_passes is_waiting d f.0.answers) f.2 in
    (f.0, told_of h q (attempt_of (state_of h).live q) f.0 f.1 ((kept-history h p).settles q), w.0, w.1)

-- where a state asks to go, the history has the decision
asked_go : (h : List Event) (q d : ℕ) → IsTrue (is_history h) → IsTrue (asks_to_go q d (state_of h))
    → IsTrue (list_any (is_go_of q) h)
asked_go h q d p k = let f = asked_of h (is_go_to q d) is_decided q d (go_says q d) p k in rw (← f.1.decided) f.2

asked_cancel : (h : List Event) (q d : ℕ) → IsTrue (is_history h) → IsTrue (asks_to_cancel q d (state_of h))
    → IsTrue (list_any (is_cancel_of q) h)
asked_cancel h q d p k = let f = asked_of h (is_cancel_to q d) is_cancelling q d (cancel_says q d) p k in
    rw (← f.1.cancelled) f.2

-- where a state asks anything of a device, the history has no end of it
asked_left : (h : List Event) (q d : ℕ) → IsTrue (is_history h) → IsTrue (asks q d (state_of h))
    → list_any (is_end_of q d) h ≡ false
asked_left h q d p k = let f = asked_of h (is_order_to q d) (λ t. true) q d (told_says q d) p k in
    waiting_not is_last refl (λ n. list_any (is_end_of q n) h) d f.0.answers f.1.ended f.3

pub nothing-more-is-asked : NothingMoreIsAsked
nothing-more-is-asked h q d p ended = at (asks q d (state_of h)) (list_any (is_end_of q d) h) ended (asked_left h q d p)
  where
    at : (b l : Bool) → IsTrue l → (IsTrue b → l ≡ false) → IsTrue (not b)
    at true true k f = let e : true ≡ false = f refl in cc
    at true false k f = cc
    at false l k f = refl

-- what some state of the history asks, its history has
ever_told : (test : ShowState → Bool) (P : Event → Bool)
    → ((h : List Event) → IsTrue (is_history h) → IsTrue (test (state_of h)) → IsTrue (list_any P h)) → (h : List Event)
    → IsTrue (is_history h) → IsTrue (ever test h) → IsTrue (list_any P h)
ever_told test P f [] p k = f [] refl k
ever_told test P f (e ∷ past) p k =
    at (test (state_of (e ∷ past))) (f (e ∷ past) p)
    (ever_told test P f past (both (acceptable (state_of past) e) (is_history past) p).1) k
  where
    later : (b c : Bool) → IsTrue c → IsTrue (b || c)
    later true c h = refl
    later false c h = h

    at : (b : Bool) → (IsTrue b → IsTrue (P e || list_any P past))
        → (IsTrue (ever test past) → IsTrue (list_any P past)) → IsTrue (b || ever test past)
        → IsTrue (P e || list_any P past)
    at true g m k = g refl
    at false g m k = later (P e) (list_any P past) (m k)

-- ---- an order that is kept has not both

both_none : (q : ℕ) (h : List Event) → IsTrue (is_in_order h)
    → IsTrue (not (list_any (is_go_of q) h && list_any (is_cancel_of q) h))
both_none q [] p = refl
both_none q (e ∷ past) p = let k = both (keeps_order past e) (is_in_order past) p in step e k.0 (both_none q past k.1)
  where
    same_go : (n : ℕ) → nat_eq n q ≡ true → IsTrue (not (list_any (is_cancel_of n) past))
        → list_any (is_cancel_of q) past ≡ false
    same_go n e g = let s = same_number n q e in not_so (list_any (is_cancel_of q) past) (rw s at g)

    same_cancel : (n : ℕ) → nat_eq n q ≡ true → IsTrue (not (list_any (is_go_of n) past))
        → list_any (is_go_of q) past ≡ false
    same_cancel n e g = let s = same_number n q e in not_so (list_any (is_go_of q) past) (rw s at g)

    go_at : (n : ℕ) (b : Bool) → nat_eq n q ≡ b → IsTrue (not (list_any (is_cancel_of n) past))
        → IsTrue (not (list_any (is_go_of q) past && list_any (is_cancel_of q) past))
        → IsTrue (not ((b || list_any (is_go_of q) past) && list_any (is_cancel_of q) past))
    go_at n true e g h = rw (same_go n e g) refl
    go_at n false e g h = h

    cancel_at : (n : ℕ) (b : Bool) → nat_eq n q ≡ b → IsTrue (not (list_any (is_go_of n) past))
        → IsTrue (not (list_any (is_go_of q) past && list_any (is_cancel_of q) past))
        → IsTrue (not (list_any (is_go_of q) past && (b || list_any (is_cancel_of q) past)))
    cancel_at n true e g h = rw (same_cancel n e g) refl
    cancel_at n false e g h = h

    step : (x : Event) → IsTrue (keeps_order past x)
        → IsTrue (not (list_any (is_go_of q) past && list_any (is_cancel_of q) past))
        → IsTrue (not (list_any (is_go_of q) (x ∷ past) && list_any (is_cancel_of q) (x ∷ past)))
    step (event.Device d port) g h = h
    step (event.NoDevice d) g h = h
    step (event.Cue c parts) g h = h
    step (event.NoCue c) g h = h
    step (event.Place c) g h = h
    step (event.Start p c t) g h = h
    step (event.Ready p d) g h = h
    step (event.Go p) g h = go_at p (nat_eq p q) refl
        (both (list_all (may_go_by past p) (parts_by past p)) (not (list_any (is_cancel_of p) past))
        (both (list_any (is_start_of p) past)
        (list_all (may_go_by past p) (parts_by past p) && not (list_any (is_cancel_of p) past)) g).1).1 h
    step (event.Done p d) g h = h
    step (event.Cancel p r) g h = cancel_at p (nat_eq p q) refl g h
    step (event.LetGo p d) g h = h
    step (event.Failed p d) g h = h
    step (event.Excuse p d) g h = h

pub never-asked-both : NeverAskedBoth
never-asked-both h q d p = at (ever (asks_to_go q d) h) (ever (asks_to_cancel q d) h)
    (ever_told (asks_to_go q d) (is_go_of q) (λ k r m. asked_go k q d r m) h p)
    (ever_told (asks_to_cancel q d) (is_cancel_of q) (λ k r m. asked_cancel k q d r m) h p)
    (both_none q h (go-after-ready h p))
  where
    at : (b c : Bool) → (IsTrue b → IsTrue (list_any (is_go_of q) h))
        → (IsTrue c → IsTrue (list_any (is_cancel_of q) h))
        → IsTrue (not (list_any (is_go_of q) h && list_any (is_cancel_of q) h)) → IsTrue (not (b && c))
    at true true f g k = rw (f refl, g refl) at k
    at true false f g k = refl
    at false c f g k = refl

pub one-holder : OneHolder
one-holder h p = pairwise_from goes_before (λ a b. disjoint (devices_of a.answers) (devices_of b.answers))
    (state_of h).live (λ a b k. (both (nat_lt a.seq b.seq) (disjoint (devices_of a.answers) (devices_of b.answers))
    k).1)
    (order_of (state_of h).live (rules_of (state_of h) (is_state-history h p)).live)

pub decided-stays : DecidedStays
decided-stays h q a p k e = let f = facts-by-history h p in rw (f.decided q a e) k
