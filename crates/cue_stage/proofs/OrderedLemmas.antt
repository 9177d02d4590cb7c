-- Each device that is still to answer has an order pending, and nobody else has.
use Rattle.std.proofs.Common.{◌≡◌, ℕ, zero, suc, ◌<◌, Bool, true, false, ◌&&◌, ◌||◌, List, [], ◌∷◌, ◌++◌, length, map}
use Rattle.std.proofs.Common.{filter, cond, nat_eq, refl, sym, ap, ◌∙◌, subst, arith, true≢false, get_or, Option, None}
use Rattle.std.proofs.Common.{Some, IsTrue}
use Rattle.std.specs.Prelude.{if◌then◌else◌, unwrap_or}
use Rattle.std.proofs.lemmas.List.Elements.{Contains-append_left, Contains-append_right}
use Rattle.std.specs.List.{Contains, cons_option, filter_map, flat_map, list_any}
use Rattle.std.specs.Option.{option_map_or}
use Rattle.cue_show.specs.Devices.{is_among}
use Rattle.cue_show.specs.Show.{port_of}
use Rattle.cue_exchange.specs.declared.attempt.Attempt.{Attempt}
use Rattle.cue_exchange.specs.declared.attempt.DeviceAnswer.{DeviceAnswer}
use Rattle.cue_exchange.specs.declared.attempt.Stage.{Stage}
use Rattle.cue_exchange.specs.declared.attempt.Stage.TheVariants.{Preparing, Decided, Cancelling}
use Rattle.cue_exchange.specs.Answers.{devices_of, waits}
use Rattle.cue_exchange.specs.Live.{attempt_of}
use Rattle.cue_exchange.specs.Steps.{holds}
use Rattle.cue_core.specs.Pending.{Order, bytes_for, order_at, order_for, pending}
use Rattle.cue_core.specs.Safety.{is_order_to}
use Rattle.cue_core.specs.State.{ShowState, cue_parts, is_state}
use Rattle.cue_core.proofs.lists.AnyLemmas.{any-append}
use Rattle.cue_core.proofs.lists.ConditionLemmas.{same_number}
use Rattle.cue_core.proofs.live.FindingLemmas.{holds-found}
use Rattle.cue_core.proofs.rules.AtCueLemmas.{rises_of}
use Rattle.cue_core.proofs.rules.RuleLemmas.{rules_of}
use Rattle.cue_engine.proofs.AskedLemmas.{further}
use Rattle.cue_stage.specs.Waiting.{awaited}
use Rattle.cue_stage.proofs.AwaitedLemmas.{awaited_in}

-- the port to which orders to the device go
abbrev pub port_to : ShowState → ℕ → ℕ
port_to s d = unwrap_or (port_of s.show d) 0

-- the test is on the stage, the number and the device of an order, which goes to the port of that
abbrev IsTestOf : (ℕ × Order → Bool) → (Stage → Bool) → ℕ → ℕ → ShowState → Type 0
IsTestOf pick stage q d s = (t : Stage) (p e : ℕ) (c b : List ℕ)
    → pick (port_to s e, order_at t p e c b) ≡ (stage t && (nat_eq p q && nat_eq e d))

spread : (st n e r : Bool) → ((st && (n && e)) || (st && (n && r))) ≡ (st && (n && (e || r)))
spread true true true r = refl
spread true true false r = refl
spread true false e r = refl
spread false n e r = refl

nothing : (st n : Bool) → false ≡ (st && (n && false))
nothing true true = refl
nothing true false = refl
nothing false n = refl

-- the orders to the devices of one attempt
orders_of : (pick : ℕ × Order → Bool) (stage : Stage → Bool) (q d : ℕ) (s : ShowState) → IsTestOf pick stage q d s
    → (a : Attempt) (xs : List DeviceAnswer)
    → list_any pick (filter_map (order_for s a) xs)
    ≡ (stage a.stage && (nat_eq a.seq q && is_among d (devices_of (filter waits xs))))
orders_of pick stage q d s f a [] = nothing (stage a.stage) (nat_eq a.seq q)
orders_of pick stage q d s f a (x ∷ xs) = by (waits x) (orders_of pick stage q d s f a xs)
  where
    rest : List DeviceAnswer
    rest = filter waits xs

    here : Order
    here = order_at a.stage a.seq x.device a.cue (bytes_for x.device (cue_parts s.show a.cue))

    by : (w : Bool)
        → list_any pick (filter_map (order_for s a) xs)
        ≡ (stage a.stage && (nat_eq a.seq q && is_among d (devices_of rest)))
        → list_any pick
        (cons_option (if w then Some (unwrap_or (port_of s.show x.device) 0, here) else None)
        (filter_map (order_for s a) xs))
        ≡ (stage a.stage && (nat_eq a.seq q && is_among d (devices_of (cond w (x ∷ rest) rest))))
    by true k = rw (f a.stage a.seq x.device a.cue (bytes_for x.device (cue_parts s.show a.cue)), k)
        (spread (stage a.stage) (nat_eq a.seq q) (nat_eq x.device d) (is_among d (devices_of rest)))
    by false k = k

same_way : (b c m : Bool) → (b && (c && m)) ≡ (c && (b && m))
same_way true true m = refl
same_way true false m = refl
same_way false true m = refl
same_way false false m = refl

-- those of all live attempts
all_orders : (pick : ℕ × Order → Bool) (stage : Stage → Bool) (q d : ℕ) (s : ShowState) → IsTestOf pick stage q d s
    → (live : List Attempt)
    → list_any pick (flat_map (λ a. filter_map (order_for s a) a.answers) live)
    ≡ holds q (λ a. stage a.stage && is_among d (devices_of (filter waits a.answers))) live
all_orders pick stage q d s f [] = refl
all_orders pick stage q d s f (a ∷ live) =
    any-append pick (filter_map (order_for s a) a.answers)
    (flat_map (λ b. filter_map (order_for s b) b.answers) live)
    ∙ rw (orders_of pick stage q d s f a a.answers, all_orders pick stage q d s f live)
    (ap (λ b. b || holds q (λ c. stage c.stage && is_among d (devices_of (filter waits c.answers))) live)
    (same_way (stage a.stage) (nat_eq a.seq q) (is_among d (devices_of (filter waits a.answers)))))

in_state : (pick : ℕ × Order → Bool) (stage : Stage → Bool) (q d : ℕ) (s : ShowState) → IsTestOf pick stage q d s
    → IsTrue (is_state s)
    → list_any pick (pending s)
    ≡ option_map_or (λ a. stage a.stage && is_among d (devices_of (filter waits a.answers))) (attempt_of s.live q) false
in_state pick stage q d s f h =
    all_orders pick stage q d s f s.live
    ∙ holds-found q (λ a. stage a.stage && is_among d (devices_of (filter waits a.answers))) s.live
    (rises_of s.live (rules_of s h).live)

any_order : (q d : ℕ) (s : ShowState) → IsTestOf (λ o. is_order_to q d o.1) (λ t. true) q d s
any_order q d s Preparing p e c b = refl
any_order q d s Decided p e c b = refl
any_order q d s (Cancelling r) p e c b = refl

of_any : (d : ℕ) (o : Option Attempt)
    → option_map_or (λ b. true && is_among d (devices_of (filter waits b.answers))) o false
    ≡ is_among d (option_map_or (λ b. devices_of (filter waits b.answers)) o [])
of_any d None = refl
of_any d (Some a) = refl

-- who is still to answer, and nobody else, has an order pending
pub any_pending : (s : ShowState) (q d : ℕ) → IsTrue (is_state s)
    → list_any (λ (o : ℕ × Order). is_order_to q d o.1) (pending s) ≡ is_among d (awaited s q)
any_pending s q d h = in_state (λ o. is_order_to q d o.1) (λ t. true) q d s (any_order q d s) h
    ∙ of_any d (attempt_of s.live q)

-- ---- the order of the stage

pub contains_mapped : {X Y : Type 0} (f : X → Y) (x : X) (xs : List X) → Contains xs x → Contains (map f xs) (f x)
contains_mapped f x [] c = let lt : c.0 < 0 = c.1 in absurd (omega arith)
contains_mapped f x (y ∷ ys) c = by (λ later. contains_mapped f x ys later) c.0 c.1 c.2
  where
    by : (Contains ys x → Contains (map f ys) (f x)) → (k : ℕ) → k < suc (length ys) → get_or (y ∷ ys) k x ≡ x
        → Contains (map f (y ∷ ys)) (f x)
    by g zero lt e = (0, omega arith, ap f e)
    by g (suc k) lt e = let below : k < length ys = omega arith in further (f y) (f x) (map f ys) (g (k, below, e))

-- the order to the device in the stage of its attempt, with its port
abbrev pub order_now : ShowState → Attempt → ℕ → ℕ × Order
order_now s a d = (port_to s d, order_at a.stage a.seq d a.cue (bytes_for d (cue_parts s.show a.cue)))

in_answers : (s : ShowState) (a : Attempt) (d : ℕ) (xs : List DeviceAnswer)
    → IsTrue (is_among d (devices_of (filter waits xs))) → Contains (filter_map (order_for s a) xs) (order_now s a d)
in_answers s a d [] h = absurd (true≢false (sym h))
in_answers s a d (x ∷ xs) h = by (waits x) (nat_eq x.device d) refl h (in_answers s a d xs)
  where
    by : (w b : Bool) → nat_eq x.device d ≡ b
        → IsTrue (is_among d (devices_of (cond w (x ∷ filter waits xs) (filter waits xs))))
        → (IsTrue (is_among d (devices_of (filter waits xs)))
        → Contains (filter_map (order_for s a) xs) (order_now s a d))
        → Contains (cons_option (if w then Some (order_now s a x.device) else None) (filter_map (order_for s a) xs))
        (order_now s a d)
    by true true e k f = (0, omega arith, ap (order_now s a) (same_number x.device d e))
    by true false e k f =
        further (order_now s a x.device) (order_now s a d) (filter_map (order_for s a) xs)
        (f (subst (λ (c : Bool). IsTrue (c || is_among d (devices_of (filter waits xs)))) e k))
    by false b e k f = f k

in_live : (s : ShowState) (q d : ℕ) (a : Attempt) (live : List Attempt) → attempt_of live q ≡ Some a
    → IsTrue (is_among d (devices_of (filter waits a.answers)))
    → Contains (flat_map (λ b. filter_map (order_for s b) b.answers) live) (order_now s a d)
in_live s q d a [] e m = absurd cc
in_live s q d a (b ∷ live) e m = by (nat_eq b.seq q) e (λ k. in_live s q d a live k m)
  where
    others : List (ℕ × Order)
    others = flat_map (λ c. filter_map (order_for s c) c.answers) live

    by : (same : Bool) → cond same (Some b) (attempt_of live q) ≡ Some a
        → (attempt_of live q ≡ Some a → Contains others (order_now s a d))
        → Contains (filter_map (order_for s b) b.answers ++ others) (order_now s a d)
    by true k f =
        let one : a ≡ b = cc in
        subst (λ (c : Attempt). Contains (filter_map (order_for s c) c.answers ++ others) (order_now s a d)) one
        (Contains-append_left (filter_map (order_for s a) a.answers) others (order_now s a d)
        (in_answers s a d a.answers m))
    by false k f = Contains-append_right (filter_map (order_for s b) b.answers) others (order_now s a d) (f k)

-- who is still to answer has the order of the stage pending, at its port
pub order_pending : (s : ShowState) (q d : ℕ) (a : Attempt) → attempt_of s.live q ≡ Some a
    → IsTrue (is_among d (awaited s q)) → Contains (pending s) (order_now s a d)
order_pending s q d a e m =
    in_live s q d a s.live e (subst (λ (ds : List ℕ). IsTrue (is_among d ds)) (ap awaited_in e) m)
