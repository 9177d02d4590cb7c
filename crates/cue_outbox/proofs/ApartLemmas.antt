-- No two pending orders are for the same device in the same attempt, so no two are the same datagram.
use Rattle.std.proofs.Common.{◌≡◌, ◌≢◌, ℕ, ◌<◌, pos, Bool, true, false, not, cond, List, [], ◌∷◌, nat_eq, nat_lt}
use Rattle.std.proofs.Common.{IsTrue, None, Some, Ok, refl, sym, ap, ◌∙◌, arith}
use Rattle.std.specs.List.{AllByRecursion, list_all, list_any, filter_map, flat_map, cons_option}
use Rattle.std.proofs.lemmas.Bool.{and_parts, ltb-true, eqb-false, not-true}
use Rattle.cue_osc.specs.Argument.{Argument, int}
use Rattle.cue_osc.specs.Content.{Content, message}
use Rattle.cue_osc.specs.Reading.{datagram_at}
use Rattle.cue_show.specs.Devices.{distinct}
use Rattle.cue_exchange.specs.declared.attempt.Stage.{Stage}
use Rattle.cue_exchange.specs.declared.attempt.Stage.TheVariants.{Preparing, Decided, Cancelling}
use Rattle.cue_exchange.specs.declared.attempt.DeviceAnswer.{DeviceAnswer}
use Rattle.cue_exchange.specs.declared.attempt.Attempt.{Attempt}
use Rattle.cue_exchange.specs.Answers.{devices_of, waits}
use Rattle.cue_exchange.specs.Live.{disjoint, pairwise, goes_before}
use Rattle.cue_exchange.proofs.LiveLemmas.{order_of}
use Rattle.cue_core.specs.State.{ShowState, cue_parts, is_state}
use Rattle.cue_core.specs.Pending.{Order, standby, go_2pc, cancel, bytes_for, order_at, order_for, pending}
use Rattle.cue_core.proofs.rules.RuleLemmas.{rules_of}
use Rattle.cue_outbox.specs.Sending.{order, order_content, send_content, datagram, datagrams, orders, all_pending}
use Rattle.cue_outbox.specs.Laws.{OrdersDiffer}
use Rattle.cue_outbox.proofs.ListLemmas.{Pairs, pairs_all, pairs_append, each_weaker, each_passes, each_fails}
use Rattle.cue_outbox.proofs.ListLemmas.{each_mapped, each_found, each_flat}
use Rattle.cue_outbox.proofs.ReadBackLemmas.{read_back}
use Rattle.cue_outbox.proofs.ReportLemmas.{IsTold, live_told}
use Rattle.cue_outbox.proofs.WritableLemmas.{sent, if_waits, IsWritableOrder, all_writable}

-- the number and the device of an order
abbrev pub key : Order → ℕ × ℕ
key (standby q d cue bytes) = (q, d)
key (go_2pc q d) = (q, d)
key (cancel q d) = (q, d)

key_at : (t : Stage) (q d : ℕ) (cue bytes : List ℕ) → key (order_at t q d cue bytes) ≡ (q, d)
key_at Preparing q d cue bytes = refl
key_at Decided q d cue bytes = refl
key_at (Cancelling r) q d cue bytes = refl

key_sent : (s : ShowState) (a : Attempt) (x : DeviceAnswer) → key (sent s a x).1 ≡ (a.seq, x.device)
key_sent s a x = key_at a.stage a.seq x.device a.cue (bytes_for x.device (cue_parts s.show a.cue))

abbrev pub Apart : ℕ × Order → ℕ × Order → Type 0
Apart o p = key o.1 ≡ key p.1 → ⊥

-- the orders to some devices of the attempt
abbrev told_to : ShowState → Attempt → List DeviceAnswer → List (ℕ × Order)
told_to s a xs = filter_map (order_for s a) xs

-- ---- within an attempt

every : {A : Type 0} (xs : List A) → AllByRecursion (λ x. Unit {0}) xs
every [] = tt
every (x ∷ xs) = (tt, every xs)

-- they carry its number
numbers_told : (s : ShowState) (a : Attempt) (xs : List DeviceAnswer)
    → AllByRecursion (λ (o : ℕ × Order). (key o.1).0 ≡ a.seq) (told_to s a xs)
numbers_told s a xs =
    each_found (λ x. Unit {0}) (λ (o : ℕ × Order). (key o.1).0 ≡ a.seq) (order_for s a)
    (λ x h. if_waits (waits x) (sent s a x) (λ (o : ℕ × Order). (key o.1).0 ≡ a.seq)
    (ap (λ (k : ℕ × ℕ). k.0) (key_sent s a x))) xs (every xs)

-- a device that is none of them is told nothing
others_told : (s : ShowState) (a : Attempt) (d : ℕ) (xs : List DeviceAnswer)
    → list_any (λ e. nat_eq e d) (devices_of xs) ≡ false
    → AllByRecursion (λ (o : ℕ × Order). (key o.1).1 ≡ d → ⊥) (told_to s a xs)
others_told s a d xs h =
    each_found (λ (x : DeviceAnswer). nat_eq x.device d ≡ false) (λ (o : ℕ × Order). (key o.1).1 ≡ d
    → ⊥) (order_for s a)
    (λ x other. if_waits (waits x) (sent s a x) (λ (o : ℕ × Order). (key o.1).1 ≡ d
    → ⊥) (λ same. eqb-false x.device d other (sym (ap (λ (k : ℕ × ℕ). k.1) (key_sent s a x)) ∙ same)))
    xs (each_mapped (λ e. nat_eq e d ≡ false) (λ (x : DeviceAnswer). x.device) xs
    (each_fails (λ e. nat_eq e d) (devices_of xs) h))

apart_within : (s : ShowState) (a : Attempt) (xs : List DeviceAnswer) → IsTrue (distinct (devices_of xs))
    → Pairs Apart (told_to s a xs)
apart_within s a [] h = tt
apart_within s a (x ∷ xs) h =
    let k = and_parts (not (list_any (λ e. nat_eq e x.device) (devices_of xs))) (distinct (devices_of xs)) h in
    onto (waits x) (others_told s a x.device xs (not-true (list_any (λ e. nat_eq e x.device) (devices_of xs)) k.0))
    (apart_within s a xs k.1)
  where
    onto : (b : Bool) → AllByRecursion (λ (o : ℕ × Order). (key o.1).1 ≡ x.device → ⊥) (told_to s a xs)
        → Pairs Apart (told_to s a xs) → Pairs Apart (cons_option (cond b (Some (sent s a x)) None) (told_to s a xs))
    onto true others rest = (
      each_weaker (λ (o : ℕ × Order). (key o.1).1 ≡ x.device → ⊥) (Apart (sent s a x))
          (λ o other same. other (ap (λ (k : ℕ × ℕ). k.1) (sym same ∙ key_sent s a x))) (told_to s a xs) others,
      rest,
    )
    onto false others rest = rest

-- ---- between attempts

-- the orders of later attempts carry higher numbers
higher_told : (s : ShowState) (a : Attempt) (rest : List Attempt) → IsTrue (list_all (goes_before a) rest)
    → AllByRecursion (λ (o : ℕ × Order). a.seq < (key o.1).0) (flat_map (λ b. told_to s b b.answers) rest)
higher_told s a rest h =
    each_flat (λ b. IsTrue (goes_before a b)) (λ (o : ℕ × Order). a.seq < (key o.1).0) (λ b. told_to s b b.answers)
    (λ b before. let lt : a.seq < b.seq =
    ltb-true a.seq b.seq (and_parts (nat_lt a.seq b.seq) (disjoint (devices_of a.answers) (devices_of b.answers))
    before).0 in
    each_weaker (λ (o : ℕ × Order). (key o.1).0 ≡ b.seq) (λ (o : ℕ × Order). a.seq < (key o.1).0)
    (λ o same. omega (arith, same)) (told_to s b b.answers) (numbers_told s b b.answers))
    rest (each_passes (goes_before a) rest h)

apart_across : (s : ShowState) (a : Attempt) (ys : List (ℕ × Order))
    → AllByRecursion (λ (o : ℕ × Order). a.seq < (key o.1).0) ys
    → AllByRecursion (λ o. AllByRecursion (Apart o) ys) (told_to s a a.answers)
apart_across s a ys higher =
    each_weaker (λ (o : ℕ × Order). (key o.1).0 ≡ a.seq) (λ o. AllByRecursion (Apart o) ys)
    (λ o here. each_weaker (λ (p : ℕ × Order). a.seq < (key p.1).0) (Apart o)
    (λ p above same. let e : (key o.1).0 ≡ (key p.1).0 = ap (λ (k : ℕ × ℕ). k.0) same in omega arith) ys higher)
    (told_to s a a.answers) (numbers_told s a a.answers)

apart_all : (s : ShowState) (live : List Attempt) → AllByRecursion (IsTold s) live → IsTrue (pairwise goes_before live)
    → Pairs Apart (flat_map (λ a. told_to s a a.answers) live)
apart_all s [] t h = tt
apart_all s (a ∷ rest) t h =
    let k = and_parts (list_all (goes_before a) rest) (pairwise goes_before rest) h in
    pairs_append Apart (told_to s a a.answers) (flat_map (λ b. told_to s b b.answers) rest)
    (apart_within s a a.answers t.0.distinct) (apart_all s rest t.1 k.1)
    (apart_across s a (flat_map (λ b. told_to s b b.answers) rest) (higher_told s a rest k.0))

-- ---- the bytes

abbrev number_in : Argument → ℕ
number_in (int (pos n)) = n
number_in _ = 0

abbrev pub content_key : Content → ℕ × ℕ
content_key (message a (x ∷ y ∷ xs)) = (number_in x, number_in y)
content_key _ = (0, 0)

pub key_in : (o : Order) → content_key (order_content o) ≡ key o
unfolding order_content
key_in (standby q d cue bytes) = refl
key_in (go_2pc q d) = refl
key_in (cancel q d) = refl

-- other orders have other bytes
pub apart_bytes : (o p : ℕ × Order) → IsWritableOrder o → IsWritableOrder p → Apart o p
    → datagram (o.0, order o.1) ≢ datagram (p.0, order p.1)
unfolding datagram send_content
apart_bytes o p w v apart e =
    let read : Ok (order_content o.1) ≡ Ok (order_content p.1) = sym (read_back (order_content o.1) w)
    ∙ ap (λ (x : ℕ × List ℕ). datagram_at x.1) e ∙ read_back (order_content p.1) v in
    let same : order_content o.1 ≡ order_content p.1 = cc in
    apart (sym (key_in o.1) ∙ ap content_key same ∙ key_in p.1)

each_other : (o : ℕ × Order) (os : List (ℕ × Order)) → IsWritableOrder o → AllByRecursion IsWritableOrder os
    → AllByRecursion (Apart o) os → AllByRecursion (λ x. datagram (o.0, order o.1) ≢ x) (datagrams (orders os))
each_other o [] w ws h = tt
each_other o (p ∷ os) w ws h = (apart_bytes o p w ws.0 h.0, each_other o os w ws.1 h.1)

pub all_other : (os : List (ℕ × Order)) → AllByRecursion IsWritableOrder os → Pairs Apart os
    → Pairs (λ x y. x ≢ y) (datagrams (orders os))
all_other [] ws h = tt
all_other (o ∷ os) ws h = (each_other o os ws.0 ws.1 h.0, all_other os ws.1 h.1)

-- no two of the pending orders are for the same device in the same attempt
pub apart_pending : (s : ShowState) → IsTrue (is_state s) → Pairs Apart (pending s)
apart_pending s h = apart_all s s.live (live_told s h) (order_of s.live (rules_of s h).live)

pub orders-differ : OrdersDiffer
orders-differ s h = pairs_all (λ x y. x ≢ y) (datagrams (all_pending s))
    (all_other (pending s) (all_writable s h) (apart_pending s h))
