-- The new orders of an account are those that are newly pending, and its replies have all events.
use Rattle.std.proofs.Common.{◌≡◌, ℕ, Bool, true, false, cond, if◌then◌else◌, List, [], ◌∷◌, ◌++◌, length, map, filter}
use Rattle.std.proofs.Common.{Option, None, Some, refl, ◌∙◌, ap, arith, length-append}
use Rattle.std.specs.List.{AllByRecursion, filter_map, flat_map, cons_option}
use Rattle.std.specs.Option.{option_map}
use Rattle.std.proofs.lemmas.List.{map-append}
use Rattle.std.proofs.lemmas.List.Elements.{filter_map-append}
use Rattle.cue_show.specs.Devices.{is_among}
use Rattle.cue_exchange.specs.declared.attempt.Attempt.{Attempt}
use Rattle.cue_exchange.specs.declared.attempt.DeviceAnswer.{DeviceAnswer}
use Rattle.cue_core.specs.State.{ShowState}
use Rattle.cue_core.specs.Steps.{after_events}
use Rattle.cue_core.specs.Pending.{Order as Pending, order_for}
use Rattle.cue_core.specs.InTurn.{events_of}
use Rattle.cue_outbox.specs.Asked.{number_asked, number_of}
use Rattle.cue_outbox.specs.Sending.{order, orders}
use Rattle.cue_outbox.proofs.ListLemmas.{each_weaker, filter-append}
use Rattle.cue_outbox.proofs.NewlyPendingLemmas.{IsOf, told_of, newly-pending-are-asked}
use Rattle.cue_outbox.proofs.SinceLemmas.{told}
use Rattle.cue_engine.specs.declared.account.Order.{Order}
use Rattle.cue_engine.specs.declared.account.Reply.{Reply}
use Rattle.cue_engine.specs.Accounts.{order_in, order_view, orders_for, orders_of, reply_to, reply_or_more, events_in}
use Rattle.cue_engine.specs.Heard.{Heard, refused, carried, hear_all, all_events}
use Rattle.cue_engine.specs.Given.{NewOrdersAreNewlyPending, RepliesHaveTheBatch}
use Rattle.cue_engine.proofs.InputLemmas.{datagram_case}
use Rattle.cue_engine.proofs.OrderingLemmas.{new-of-numbers}

-- ---- orders

-- where each has one outcome, all are kept or none
filter-alike : {A : Type 0} (test : A → Bool) (b : Bool) (xs : List A) → AllByRecursion (λ x. test x ≡ b) xs
    → filter test xs ≡ cond b xs []
filter-alike test true [] h = refl
filter-alike test false [] h = refl
filter-alike test true (x ∷ xs) h = rw h.0 (ap (λ ys. x ∷ ys) (filter-alike test true xs h.1))
filter-alike test false (x ∷ xs) h = rw h.0 (filter-alike test false xs h.1)

one-sent : (o : Option (ℕ × Pending)) (os : List (ℕ × Pending))
    → filter_map order_in (orders (cons_option o os)) ≡ cons_option (option_map (order_view true) o)
    (filter_map order_in (orders os))
one-sent None os = refl
one-sent (Some o) os = refl

sent-for : (s : ShowState) (a : Attempt) (xs : List DeviceAnswer)
    → filter_map order_in (orders (filter_map (order_for s a) xs)) ≡ orders_for true s a xs
sent-for s a [] = refl
sent-for s a (x ∷ xs) = one-sent (order_for s a x) (filter_map (order_for s a) xs)
    ∙ ap (cons_option (option_map (order_view true) (order_for s a x))) (sent-for s a xs)

-- those of the attempts that have one of the numbers
sent-of : (s : ShowState) (numbers : List ℕ) (live : List Attempt)
    → filter_map order_in (orders (filter (λ o. is_among (number_of o.1) numbers) (flat_map (λ a. told s a) live)))
    ≡ orders_of numbers s live
sent-of s numbers [] = refl
sent-of s numbers (a ∷ live) =
    let test : ℕ × Pending → Bool = λ o. is_among (number_of o.1) numbers in
    let rest : List (ℕ × Pending) = filter test (flat_map (λ b. told s b) live) in
    let here : filter test (told s a) ≡ cond (is_among a.seq numbers) (told s a) [] =
    filter-alike test (is_among a.seq numbers) (told s a)
    (each_weaker (IsOf a) (λ o. test o ≡ is_among a.seq numbers) (λ o k. ap (λ q. is_among q numbers) k.number)
    (told s a) (told_of s a))
    in
    let first : List (ℕ × Pending) = cond (is_among a.seq numbers) (told s a) [] in
    ap (λ (os : List (ℕ × Pending)). filter_map order_in (orders os))
    (filter-append test (told s a) (flat_map (λ b. told s b) live)
    ∙ ap (λ (os : List (ℕ × Pending)). os ++ rest) here)
    ∙ (ap (filter_map order_in) (map-append (λ (o : ℕ × Pending). (o.0, order o.1)) first rest)
    ∙ (filter_map-append order_in (orders first) (orders rest)
    ∙ (ap (λ (os : List Order). os ++ filter_map order_in (orders rest)) (either (is_among a.seq numbers))
    ∙ ap (λ (os : List Order). (if is_among a.seq numbers then orders_for true s a a.answers else []) ++ os)
    (sent-of s numbers live))))
  where
    either : (b : Bool) → filter_map order_in (orders (cond b (told s a) []))
        ≡ (if b then orders_for true s a a.answers else [])
    either true = sent-for s a a.answers
    either false = refl

pub new_orders_are_newly_pending : NewOrdersAreNewlyPending
new_orders_are_newly_pending s events rules turn =
    let t : ShowState = after_events s events in
    let numbers : List ℕ = filter_map number_asked events in
    ap (filter_map order_in) (newly-pending-are-asked s events numbers rules turn (λ q. refl))
    ∙ (sent-of t numbers t.live ∙ new-of-numbers t numbers events (λ q. refl))

-- ---- events

all-heard : (from : ℕ) (hs : List Heard) → events_in (map (reply_to from) hs) ≡ length (all_events hs)
all-heard from [] = refl
all-heard from (refused address code ∷ hs) = omega (arith, all-heard from hs)
all-heard from (carried address xs ∷ hs) =
    omega (arith, all-heard from hs, length-append (events_of xs) (all_events hs))

or-more : (from : ℕ) (rs : List Reply) → events_in (reply_or_more from rs) ≡ events_in rs
or-more from [] = refl
or-more from (r ∷ rs) = refl

pub replies_have_the_batch : RepliesHaveTheBatch
replies_have_the_batch s now from bytes =
    datagram_case (λ g. events_in g.replies ≡ length g.batch) s now from bytes (λ why. refl) (λ ms few.
    let hs : List Heard = hear_all s now from ms in
    or-more from (map (reply_to from) hs) ∙ all-heard from hs)
