-- The orders of an account, attempt by attempt.
use Rattle.std.proofs.Common.{◌≡◌, ℕ, ◌+◌, ◌<◌, Bool, true, if◌then◌else◌, List, [], ◌∷◌, ◌++◌, length, drop, get_or}
use Rattle.std.proofs.Common.{refl, sym, ◌∙◌, ap, append_assoc, Vec, Global, Result, Ok, Err}
use Rattle.std.specs.Prelude.{IfOk, OnOk}
use Rattle.std.specs.List.{flat_map}
use Rattle.std.proofs.lemmas.List.{drop_more}
use Rattle.cue_show.specs.Devices.{is_among}
use Rattle.cue_exchange.specs.declared.attempt.Attempt.{Attempt}
use Rattle.cue_core.specs.declared.event.Event.{Event}
use Rattle.cue_core.specs.State.{ShowState}
use Rattle.cue_outbox.specs.Asked.{is_asked}
use Rattle.cue_engine.specs.declared.account.Order.{Order}
use Rattle.cue_engine.specs.Accounts.{orders_for, orders_of, new_orders, new_orders_of}

-- the orders of one attempt more
pub one-more : (orders_in : Attempt → List Order) (live : List Attempt) (orders : List Order) {i : ℕ} {a : Attempt}
    {news all : List Order} → i < length live → a ≡ get_or live i a → news ≡ orders ++ orders_in a
    → orders ++ flat_map orders_in (drop i live) ≡ all → news ++ flat_map orders_in (drop (i + 1) live) ≡ all
one-more orders_in live orders {i} {a} lt is new old =
    let cut : drop i live ≡ a ∷ drop (i + 1) live = drop_more live i a lt ∙ ap (λ x. x ∷ drop (i + 1) live) (sym is) in
    let rest : List Order = flat_map orders_in (drop (i + 1) live) in
    ap (λ (os : List Order). os ++ rest) new
    ∙ (append_assoc orders (orders_in a) rest
    ∙ (ap (λ (os : List Order). orders ++ os) (sym (ap (flat_map orders_in) cut)) ∙ old))

-- the attempts with the numbers are those that are asked
of-asked : (s : ShowState) (numbers : List ℕ) (batch : List Event) (live : List Attempt)
    → ((q : ℕ) → is_among q numbers ≡ is_asked q batch) → orders_of numbers s live ≡ new_orders_of batch s live
of-asked s numbers batch [] exact = refl
of-asked s numbers batch (a ∷ live) exact =
    ap (λ (b : Bool). (if b then orders_for true s a a.answers else []) ++ orders_of numbers s live) (exact a.seq)
    ∙ ap (λ (os : List Order). (if is_asked a.seq batch then orders_for true s a a.answers else []) ++ os)
    (of-asked s numbers batch live exact)

-- and so the new orders
pub new-of-numbers : (s : ShowState) (numbers : List ℕ) (batch : List Event)
    → ((q : ℕ) → is_among q numbers ≡ is_asked q batch) → orders_of numbers s s.live ≡ new_orders batch s
unfolding new_orders
new-of-numbers s numbers batch exact = of-asked s numbers batch s.live exact

-- what is the same as these orders
pub if_orders : {E : Type 0} (r : Result (Vec Order Global) E) (xs ys : List Order)
    → IfOk r (λ (v : Vec Order Global). v.items ≡ xs) → xs ≡ ys → IfOk r (λ (v : Vec Order Global). v.items ≡ ys)
if_orders (Ok v) xs ys is same = is ∙ same
if_orders (Err e) xs ys is same = is

-- what holds anyway
pub ok_either : {T E : Type 0} {P : Type 0} (r : Result T E) → P → OnOk r P
ok_either (Ok t) h = h
ok_either (Err e) h = tt
