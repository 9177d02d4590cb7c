-- The newly pending orders are those of the attempts whose devices are asked again.
use Rattle.std.proofs.Common.{◌≡◌, ◌≢◌, ℕ, ◌<◌, ◌≤◌, Bool, true, false, not, cond, ◌||◌, List, [], ◌∷◌, ◌++◌, filter}
use Rattle.std.proofs.Common.{nat_eq, nat_lt, nat_le, IsTrue, Some, Ok, refl, sym, ap, ◌∙◌, subst, arith}
use Rattle.std.specs.List.{AllByRecursion, list_all, list_any, flat_map}
use Rattle.std.specs.Cmp.Lexicographic.{pointwise, bytes_decides}
use Rattle.std.proofs.lemmas.Bool.{ltb-true, leb-true}
use Rattle.std.proofs.lemmas.Bool.Decides.{nat_tests}
use Rattle.cue_osc.specs.Content.{Content, message}
use Rattle.cue_osc.specs.Reading.{datagram_at}
use Rattle.cue_show.specs.Devices.{is_among}
use Rattle.cue_exchange.specs.declared.attempt.Stage.{Stage}
use Rattle.cue_exchange.specs.declared.attempt.Stage.TheVariants.{Preparing, Decided, Cancelling}
use Rattle.cue_exchange.specs.declared.attempt.Attempt.{Attempt}
use Rattle.cue_exchange.specs.Answers.{is_preparing, waits}
use Rattle.cue_exchange.specs.Live.{attempt_of, has_number}
use Rattle.cue_core.specs.State.{ShowState, cue_parts, is_state}
use Rattle.cue_core.specs.Steps.{after_events}
use Rattle.cue_core.specs.Pending.{Order, standby, go_2pc, cancel, bytes_for, order_at, order_for, pending}
use Rattle.cue_core.specs.InTurn.{steps, events_of}
use Rattle.cue_core.proofs.verdicts.StepLemmas.{steps-acceptable}
use Rattle.cue_core.proofs.lists.ConditionLemmas.{both, join, same_number, same_self}
use Rattle.cue_core.proofs.live.FindingLemmas.{rising, found_has}
use Rattle.cue_core.proofs.rules.RuleLemmas.{rules_of}
use Rattle.cue_core.proofs.rules.SoundLemmas.{sound_of}
use Rattle.cue_outbox.specs.Sending.{Send, order, order_content, send_content, datagram, datagrams, orders, all_pending}
use Rattle.cue_outbox.specs.New.{same_datagram, is_new, newly_pending}
use Rattle.cue_outbox.specs.Asked.{number_of, is_asked, pending_of, NewlyPendingAreAsked, StepsAskAgain}
use Rattle.cue_outbox.specs.Asked.{AskedOrdersDiffer}
use Rattle.cue_outbox.proofs.ListLemmas.{Pairs, pairs_all, each_weaker, each_passes, each_found, each_flat, each_filter}
use Rattle.cue_outbox.proofs.ReadBackLemmas.{read_back}
use Rattle.cue_outbox.proofs.ReportLemmas.{IsTold, live_told}
use Rattle.cue_outbox.proofs.WritableLemmas.{sent, if_waits, IsWritableOrder, writable_for, all_writable}
use Rattle.cue_outbox.proofs.ApartLemmas.{Apart, key, content_key, key_in, all_other, apart_pending}
use Rattle.cue_outbox.proofs.SinceLemmas.{told, Stays, Since, begun, moved_on, stayed}
use Rattle.cue_outbox.proofs.InTurnLemmas.{since, is_state-after_events}

-- ---- orders of other attempts, or of another stage, are other datagrams

-- the order asks to stand by
abbrev pub is_standby : Order → Bool
is_standby (standby q d cue bytes) = true
is_standby (go_2pc q d) = false
is_standby (cancel q d) = false

-- the orders of one attempt are a standby, and then none
abbrev Differs : ℕ × Order → ℕ × Order → Type 0
Differs o p = (number_of o.1 ≡ number_of p.1) → (is_standby o.1 ≡ true) × (is_standby p.1 ≡ false)

-- a standby has four arguments, the others have two
abbrev has_four : Content → Bool
has_four (message a (x ∷ y ∷ z ∷ xs)) = true
has_four _ = false

four_in : (o : Order) → has_four (order_content o) ≡ is_standby o
unfolding order_content
four_in (standby q d cue bytes) = refl
four_in (go_2pc q d) = refl
four_in (cancel q d) = refl

number_key : (o : Order) → (key o).0 ≡ number_of o
number_key (standby q d cue bytes) = refl
number_key (go_2pc q d) = refl
number_key (cancel q d) = refl

differ_bytes : (o p : ℕ × Order) → IsWritableOrder o → IsWritableOrder p → Differs o p
    → datagram (o.0, order o.1) ≢ datagram (p.0, order p.1)
unfolding datagram send_content
differ_bytes o p w v other e =
    let read : Ok (order_content o.1) ≡ Ok (order_content p.1) = sym (read_back (order_content o.1) w)
    ∙ ap (λ (x : ℕ × List ℕ). datagram_at x.1) e ∙ read_back (order_content p.1) v in
    let same : order_content o.1 ≡ order_content p.1 = cc in
    let number : number_of o.1 ≡ number_of p.1 = sym (number_key o.1)
    ∙ ap (λ (k : ℕ × ℕ). k.0) (sym (key_in o.1) ∙ ap content_key same ∙ key_in p.1) ∙ number_key p.1 in
    let kind : is_standby o.1 ≡ is_standby p.1 = sym (four_in o.1) ∙ ap has_four same ∙ four_in p.1 in
    let k = other number in
    let clash : true ≡ false = sym k.0 ∙ kind ∙ k.1 in
    cc

-- the test of two datagrams tells whether they are the same
same_bytes : (x y : ℕ × List ℕ) → same_datagram x y ≡ true → x ≡ y
same_bytes x y h =
    let k = both (nat_eq x.0 y.0) (pointwise nat_eq x.1 y.1) h in
    let to : x.0 ≡ y.0 = same_number x.0 y.0 k.0 in
    let bytes : x.1 ≡ y.1 = (bytes_decides x.1 y.1).0 k.1 in
    ap (λ n. (n, x.1)) to ∙ ap (λ bs. (y.0, bs)) bytes

text_itself : (bs : List ℕ) → pointwise nat_eq bs bs ≡ true
text_itself [] = refl
text_itself (b ∷ bs) = rw (same_self b, text_itself bs) refl

same_itself : (x : ℕ × List ℕ) → same_datagram x x ≡ true
same_itself x = join (nat_eq x.0 x.0) (pointwise nat_eq x.1 x.1) (same_self x.0) (text_itself x.1)

other_datagram : (x y : ℕ × List ℕ) → x ≢ y → same_datagram x y ≡ false
other_datagram x y n = by (same_datagram x y) refl
  where
    by : (b : Bool) → same_datagram x y ≡ b → b ≡ false
    by true e = absurd (n (same_bytes x y e))
    by false e = refl

-- an order that differs from each old one is new
new_beside : (p : ℕ × Order) (olds : List (ℕ × Order)) → IsWritableOrder p → AllByRecursion IsWritableOrder olds
    → AllByRecursion (λ o. Differs o p) olds → is_new (datagrams (orders olds)) (p.0, order p.1) ≡ true
new_beside p [] w ws h = refl
new_beside p (o ∷ olds) w ws h =
    rw (other_datagram (datagram (o.0, order o.1)) (datagram (p.0, order p.1)) (differ_bytes o p ws.0 w h.0))
    (new_beside p olds w ws.1 h.1)

-- the order is among the old ones
abbrev is_old : List (ℕ × List ℕ) → ℕ × Order → Bool
is_old old o = not (is_new old (o.0, order o.1))

not_new_more : (x : ℕ × List ℕ) (old : List (ℕ × List ℕ)) (o : ℕ × Order) → IsTrue (is_old old o)
    → IsTrue (is_old (x ∷ old) o)
not_new_more x old o h =
    by (same_datagram x (datagram (o.0, order o.1))) (list_any (λ y. same_datagram y (datagram (o.0, order o.1))) old) h
  where
    by : (b c : Bool) → IsTrue (not (not c)) → IsTrue (not (not (b || c)))
    by true c k = refl
    by false c k = k

all_more : (x : ℕ × List ℕ) (old : List (ℕ × List ℕ)) (os : List (ℕ × Order)) → IsTrue (list_all (is_old old) os)
    → IsTrue (list_all (is_old (x ∷ old)) os)
all_more x old [] h = refl
all_more x old (o ∷ os) h = let k = both (is_old old o) (list_all (is_old old) os) h in
    join (is_old (x ∷ old) o) (list_all (is_old (x ∷ old)) os) (not_new_more x old o k.0) (all_more x old os k.1)

-- each order is among those that it is one of
all_old : (os : List (ℕ × Order)) → IsTrue (list_all (is_old (datagrams (orders os))) os)
all_old [] = refl
all_old (o ∷ os) =
    join (is_old (datagrams (orders (o ∷ os))) o) (list_all (is_old (datagrams (orders (o ∷ os)))) os)
    (rw (same_itself (datagram (o.0, order o.1))) refl)
    (all_more (datagram (o.0, order o.1)) (datagrams (orders os)) os (all_old os))

-- ---- the orders of an attempt

every : {A : Type 0} (xs : List A) → AllByRecursion (λ x. Unit {0}) xs
every [] = tt
every (x ∷ xs) = (tt, every xs)

number_at : (t : Stage) (q d : ℕ) (cue bytes : List ℕ) → number_of (order_at t q d cue bytes) ≡ q
number_at Preparing q d cue bytes = refl
number_at Decided q d cue bytes = refl
number_at (Cancelling r) q d cue bytes = refl

standby_at : (t : Stage) (q d : ℕ) (cue bytes : List ℕ) → is_standby (order_at t q d cue bytes) ≡ is_preparing t
standby_at Preparing q d cue bytes = refl
standby_at Decided q d cue bytes = refl
standby_at (Cancelling r) q d cue bytes = refl

-- they carry its number, and are standbys where it is Preparing
pub record IsOf (a : Attempt) (o : ℕ × Order) : Type 0 where
  pub number : number_of o.1 ≡ a.seq
  pub kind : is_standby o.1 ≡ is_preparing a.stage

pub told_of : (s : ShowState) (a : Attempt) → AllByRecursion (IsOf a) (told s a)
told_of s a =
    each_found (λ x. Unit {0}) (IsOf a) (order_for s a)
    (λ x h. if_waits (waits x) (sent s a x) (IsOf a)
    (record {
      number = number_at a.stage a.seq x.device a.cue (bytes_for x.device (cue_parts s.show a.cue));
      kind =
          standby_at a.stage a.seq x.device a.cue (bytes_for x.device (cue_parts s.show a.cue));
    }))
    a.answers (every a.answers)

-- ---- each attempt is found by its number

each_both : {A : Type 0} (P Q R : A → Type 0) → ((x : A) → P x → Q x → R x) → (xs : List A) → AllByRecursion P xs
    → AllByRecursion Q xs → AllByRecursion R xs
each_both P Q R f [] h k = tt
each_both P Q R f (x ∷ xs) h k = (f x h.0 k.0, each_both P Q R f xs h.1 k.1)

not_at : (m n : ℕ) → IsTrue (nat_lt m n) → nat_eq m n ≡ false
not_at m n h = let lt : m < n = ltb-true m n h in ne m n lt
  where
    ne : (m n : ℕ) → m < n → nat_eq m n ≡ false
    ne m n lt = Prim.grind (arith, nat_tests, lt)

each_itself : (live : List Attempt) → IsTrue (rising live)
    → AllByRecursion (λ (a : Attempt). attempt_of live a.seq ≡ Some a) live
each_itself [] h = tt
each_itself (a ∷ live) h =
    let p = both (list_all (λ b. nat_lt a.seq b.seq) live) (rising live) h in (
      rw (same_self a.seq) refl,
      each_both (λ (b : Attempt). IsTrue (nat_lt a.seq b.seq)) (λ (b : Attempt). attempt_of live b.seq ≡ Some b)
          (λ (b : Attempt). attempt_of (a ∷ live) b.seq ≡ Some b)
          (λ b above e. rw (not_at a.seq b.seq above) e) live (each_passes (λ b. nat_lt a.seq b.seq) live p.0)
          (each_itself live p.1),
    )

-- ---- whether an order is new

-- a test that all pending orders pass is passed by those of each attempt
pending_all : (s : ShowState) (test : ℕ × Order → Bool) (live : List Attempt)
    → IsTrue (list_all test (flat_map (λ a. told s a) live)) → IsTrue (list_all (λ a. list_all test (told s a)) live)
pending_all s test [] h = refl
pending_all s test (a ∷ live) h =
    let k = all_split (told s a) (flat_map (λ b. told s b) live) h in
    join (list_all test (told s a)) (list_all (λ b. list_all test (told s b)) live) k.0 (pending_all s test live k.1)
  where
    all_split : (xs ys : List (ℕ × Order)) → IsTrue (list_all test (xs ++ ys)) → IsTrue (list_all test xs)
        × IsTrue (list_all test ys)
    all_split [] ys k = (refl, k)
    all_split (x ∷ xs) ys k = let p = both (test x) (list_all test (xs ++ ys)) k in let q = all_split xs ys p.1 in
        (join (test x) (list_all test xs) p.0 q.0, q.1)

-- the old orders differ from one of an attempt that was begun, or moved on
olds_differ : (s : ShowState) (b : Attempt) (p : ℕ × Order) → number_of p.1 ≡ b.seq
    → ((a : Attempt) → attempt_of s.live a.seq ≡ Some a → a.seq ≡ b.seq → IsTrue (is_preparing a.stage)
    × (is_standby p.1 ≡ false)) → IsTrue (rising s.live)
    → AllByRecursion (λ o. Differs o p) (pending s)
olds_differ s b p number f rises =
    each_flat (λ (a : Attempt). attempt_of s.live a.seq ≡ Some a) (λ o. Differs o p) (λ a. told s a)
    (λ a e. each_weaker (IsOf a) (λ o. Differs o p)
    (λ o k same. let one : a.seq ≡ b.seq = sym k.number ∙ (same ∙ number) in let m = f a e one in (k.kind ∙ m.0, m.1))
    (told s a) (told_of s a))
    s.live (each_itself s.live rises)

-- an attempt with its orders in the new state
record IsNow (t : ShowState) (b : Attempt) : Type 0 where
  there : attempt_of t.live b.seq ≡ Some b
  writable : AllByRecursion IsWritableOrder (told t b)

-- the test of newness of the orders of the attempt
abbrev AreNew : ShowState → Bool → List (ℕ × Order) → Type 0
AreNew s asked os = AllByRecursion (λ (o : ℕ × Order). is_new (datagrams (all_pending s)) (o.0, order o.1) ≡ asked) os

begun_new : (s t : ShowState) (b : Attempt) → IsTrue (is_state s) → IsNow t b → s.last_seq < b.seq
    → AreNew s true (told t b)
begun_new s t b i n lt =
    each_both IsWritableOrder (IsOf b) (λ (o : ℕ × Order). is_new (datagrams (all_pending s)) (o.0, order o.1) ≡ true)
    (λ o w k. new_beside o (pending s) w (all_writable s i)
    (olds_differ s b o k.number
    (λ a e one. let low : a.seq ≤ s.last_seq =
    leb-true a.seq s.last_seq (found_has (λ y. nat_le y.seq s.last_seq) (has_number a.seq) s.live a
    (rules_of s i).within e) in absurd (omega arith))
    (sound_of s i).rises))
    (told t b) n.writable (told_of t b)

moved_new : (s t : ShowState) (b a : Attempt) → IsTrue (is_state s) → IsNow t b → attempt_of s.live b.seq ≡ Some a
    → IsTrue (is_preparing a.stage) → is_preparing b.stage ≡ false → AreNew s true (told t b)
moved_new s t b a i n f prepares ends =
    each_both IsWritableOrder (IsOf b) (λ (o : ℕ × Order). is_new (datagrams (all_pending s)) (o.0, order o.1) ≡ true)
    (λ o w k. new_beside o (pending s) w (all_writable s i)
    (olds_differ s b o k.number
    (λ x e one.
    let P : ℕ → Type 0 = λ q. attempt_of s.live q ≡ Some x in
    let found_x : attempt_of s.live b.seq ≡ Some x = subst P one e in
    let same : a ≡ x = cc in
    let Q : Attempt → Type 0 = λ y. IsTrue (is_preparing y.stage) in
    (subst Q same prepares, k.kind ∙ ends))
    (sound_of s i).rises))
    (told t b) n.writable (told_of t b)

stayed_old : (s t : ShowState) (b a : Attempt) → attempt_of s.live b.seq ≡ Some a → Stays s a t b
    → AreNew s false (told t b)
stayed_old s t b a f h =
    let old = datagrams (all_pending s) in
    let there = found_has (λ x. list_all (is_old (datagrams (all_pending s))) (told s x)) (has_number b.seq) s.live a
    (pending_all s (is_old (datagrams (all_pending s))) s.live (all_old (pending s))) f in
    each_weaker (λ (o : ℕ × Order). IsTrue (is_old (datagrams (all_pending s)) o))
    (λ (o : ℕ × Order). is_new (datagrams (all_pending s)) (o.0, order o.1) ≡ false)
    (λ o k. by (is_new (datagrams (all_pending s)) (o.0, order o.1)) k) (told t b)
    (each_passes (is_old (datagrams (all_pending s))) (told t b)
    (h.among.each (is_old (datagrams (all_pending s))) there))
  where
    by : (c : Bool) → IsTrue (not c) → c ≡ false
    by true k = absurd cc
    by false k = refl

new_as_asked : (s t : ShowState) (b : Attempt) (asked : Bool) → IsTrue (is_state s) → IsNow t b
    → Since s t b.seq b asked → AreNew s asked (told t b)
new_as_asked s t b asked i n (begun k lt) = let P : Bool → Type 0 = λ z. AreNew s z (told t b) in
    subst P (sym k) (begun_new s t b i n lt)
new_as_asked s t b asked i n (moved_on k a f prepares ends) = let P : Bool → Type 0 = λ z. AreNew s z (told t b) in
    subst P (sym k) (moved_new s t b a i n f prepares ends)
new_as_asked s t b asked i n (stayed k a f h) = let P : Bool → Type 0 = λ z. AreNew s z (told t b) in
    subst P (sym k) (stayed_old s t b a f h)

-- ---- all of them

filter_orders : (new : ℕ × Send → Bool) (test : ℕ × Order → Bool) (os : List (ℕ × Order))
    → AllByRecursion (λ (o : ℕ × Order). new (o.0, order o.1) ≡ test o) os
    → filter new (orders os) ≡ orders (filter test os)
filter_orders new test [] h = refl
filter_orders new test (o ∷ os) h = by (new (o.0, order o.1)) (test o) h.0 (filter_orders new test os h.1)
  where
    by : (b c : Bool) → b ≡ c → filter new (orders os) ≡ orders (filter test os)
        → cond b ((o.0, order o.1) ∷ filter new (orders os)) (filter new (orders os)) ≡ orders
        (cond c (o ∷ filter test os) (filter test os))
    by true true e k = ap (λ (xs : List (ℕ × Send)). (o.0, order o.1) ∷ xs) k
    by false false e k = k
    by true false e k = absurd cc
    by false true e k = absurd cc

pub newly-pending-are-asked : NewlyPendingAreAsked
unfolding newly_pending
newly-pending-are-asked s events numbers i g asked =
    let t = after_events s events in
    let j = is_state-after_events s events i g in
    filter_orders (is_new (datagrams (all_pending s))) (λ o. is_among (number_of o.1) numbers)
    (pending (after_events s events))
    (each_flat (IsNow (after_events s events)) (λ (o : ℕ × Order). is_new (datagrams (all_pending s)) (o.0, order o.1)
    ≡ is_among (number_of o.1) numbers) (λ a. told (after_events s events) a)
    (λ b n. each_both (IsOf b) (λ (o : ℕ × Order). is_new (datagrams (all_pending s)) (o.0, order o.1) ≡ is_asked b.seq
    events) (λ (o : ℕ × Order). is_new (datagrams (all_pending s)) (o.0, order o.1) ≡ is_among (number_of o.1)
    numbers)
    (λ o k e. e ∙ (sym (asked b.seq) ∙ ap (λ q. is_among q numbers) (sym k.number)))
    (told (after_events s events) b) (told_of (after_events s events) b)
    (new_as_asked s (after_events s events) b (is_asked b.seq events) i n (since s events b.seq b i g n.there)))
    (after_events s events).live
    (each_both (λ (b : Attempt). attempt_of (after_events s events).live b.seq ≡ Some b)
    (IsTold (after_events s events)) (IsNow (after_events s events))
    (λ b e told_b. record { there = e; writable = writable_for (after_events s events) b told_b })
    (after_events s events).live (each_itself (after_events s events).live (sound_of (after_events s events) j).rises)
    (live_told (after_events s events) j)))

pub steps-ask-again : StepsAskAgain
steps-ask-again s now from commands numbers h fit asked =
    newly-pending-are-asked s (events_of (steps s now from commands)) numbers h
    (steps-acceptable s now from commands h fit) asked

-- ---- no two are the same

pairs_filter : {A : Type 0} (R : A → A → Type 0) (test : A → Bool) (xs : List A) → Pairs R xs → Pairs R (filter test xs)
pairs_filter R test [] h = tt
pairs_filter R test (x ∷ xs) h = by (test x) (each_filter (R x) test xs h.0) (pairs_filter R test xs h.1)
  where
    by : (b : Bool) → AllByRecursion (R x) (filter test xs) → Pairs R (filter test xs)
        → Pairs R (cond b (x ∷ filter test xs) (filter test xs))
    by true first rest = (first, rest)
    by false first rest = rest

pub asked-orders-differ : AskedOrdersDiffer
asked-orders-differ s numbers h =
    let test : ℕ × Order → Bool = λ o. is_among (number_of o.1) numbers in
    pairs_all (λ x y. x ≢ y) (datagrams (pending_of numbers s))
    (all_other (filter test (pending s)) (each_filter IsWritableOrder test (pending s) (all_writable s h))
    (pairs_filter Apart test (pending s) (apart_pending s h)))
