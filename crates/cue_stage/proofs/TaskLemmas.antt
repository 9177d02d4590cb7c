-- What a device's machine is ordered in an attempt is for a task that a STANDBY of it gave. If that is always one task,
-- it is ordered to give up only by a CANCEL.
use Rattle.std.proofs.Common.{◌≡◌, ℕ, Bool, true, false, cond, ◌||◌, List, [], ◌∷◌, Option, Some, None, is_none}
use Rattle.std.proofs.Common.{nat_eq, refl, sym, ap, ◌∙◌, subst, true≢false, arith}
use Rattle.std.specs.List.{AllByRecursion, Contains}
use Rattle.std.specs.Option.{option_map}
use Rattle.std.proofs.lemmas.Bool.{eqb-true}
use Rattle.cue_show.proofs.TestLemmas.{join}
use Rattle.cue_show.proofs.TextLemmas.{same_text-itself}
use Rattle.cue_show.specs.Number.{same_text}
use Rattle.cue_device.specs.declared.asked.Command.{Command}
use Rattle.cue_device.specs.declared.asked.Command.TheVariants.{Standby, Go, Cancel}
use Rattle.cue_device.specs.declared.asked.Task.{Task}
use Rattle.cue_device.specs.declared.hearing.Device.{Device}
use Rattle.cue_device.specs.declared.hearing.Place.{Place}
use Rattle.cue_device.specs.declared.hearing.Place.TheVariants.{Over, Same, New}
use Rattle.cue_device.specs.declared.phase.Attempt.{Attempt}
use Rattle.cue_device.specs.declared.phase.Phase.{Phase}
use Rattle.cue_device.specs.declared.phase.Phase.TheVariants.{Preparing, Ready}
use Rattle.cue_device.specs.declared.words.Order.{Order}
use Rattle.cue_device.specs.declared.words.Order.TheVariants.{Prepare, Move, GiveUp}
use Rattle.cue_device.specs.Hearing.{after_at, again, device_at_rest, heard_at, is_for, is_same_task, ordered_for}
use Rattle.cue_device.specs.Hearing.{place, seq_of, task_now}
use Rattle.cue_device.specs.Histories.{Happening, hears, tells, repeats, hears_reply, restarts, device_after, latest}
use Rattle.cue_device.specs.Histories.{order_at, orders_of}
use Rattle.cue_device.specs.Laws.{has_given_up}
use Rattle.cue_device.specs.Table.{new_number, new_standby, other_standby, same_cancel, same_go, same_standby}
use Rattle.cue_engine.proofs.AskedLemmas.{further}
use Rattle.cue_stage.specs.Tasks.{tasks_of}
use Rattle.cue_stage.proofs.HeldLemmas.{CameFor, Came, Holds, IsIdle, OrdersFor, again_fits, device_holds}
use Rattle.cue_stage.proofs.PreparedLemmas.{place_same}

-- each STANDBY that came gave a task of which this holds
abbrev pub AllGive : (ℕ → Task → Type 0) → List Happening → Type 0
AllGive P hs = (q : ℕ) (t : Task) → Contains hs (hears (Standby q t)) → P q t

all_gave : (P : ℕ → Task → Type 0) (h : Happening) (hs : List Happening) → AllGive P (h ∷ hs) → AllGive P hs
all_gave P h hs all = λ q t c. all q t (further h (hears (Standby q t)) hs c)

-- what the attempt of the device is for, by the number of a command
came_for : (hs : List Happening) (d : Device) (n : ℕ) (a : Attempt) → place d n ≡ Same a → Holds hs d
    → CameFor hs n a.phase a.task
came_for hs d n a is holds =
    let at = place_same d n a is in
    let here : Came hs d.last (Some a) = subst (Came hs d.last) at.1 holds in
    subst (λ (m : ℕ). CameFor hs m a.phase a.task) (sym at.0) here

-- ---- what an order is for

-- the order is for a task of which this holds
abbrev pub IsForOne : (ℕ → Task → Type 0) → Order × Option Task → Type 0
IsForOne P o = (t : Task) × (o.1 ≡ Some t) × P (ordered_for o.0) t

ordered_for_it : (P : ℕ → Task → Type 0) (hs : List Happening) (n : ℕ) (p : Phase) (t : Option Task) (o : Option Order)
    (rest : List (Order × Option Task)) → AllGive P hs → CameFor hs n p t → OrdersFor n p o
    → AllByRecursion (IsForOne P) rest → AllByRecursion (IsForOne P) (latest (option_map (λ x. (x, t)) o) rest)
ordered_for_it P hs n p t None rest all came orders k = k
ordered_for_it P hs n p None (Some o) rest all came orders k = absurd (orders.1 came)
ordered_for_it P hs n p (Some t) (Some o) rest all came orders k =
    ((t, refl, subst (λ (m : ℕ). P m t) (sym orders.0) (all n t came)), k)

new_for_it : (P : ℕ → Task → Type 0) (hs : List Happening) (free : Bool) (n : ℕ) (t : Task)
    (rest : List (Order × Option Task)) → AllGive P (hears (Standby n t) ∷ hs) → AllByRecursion (IsForOne P) rest
    → AllByRecursion (IsForOne P) (latest (option_map (λ x. (x, Some t)) (new_standby n free).order) rest)
new_for_it P hs true n t rest all k = ((t, refl, all n t (0, omega arith, refl)), k)
new_for_it P hs false n t rest all k = k

heard_for_it : (P : ℕ → Task → Type 0) (hs : List Happening) (d : Device) (c : Command) (p : Place)
    (rest : List (Order × Option Task)) → place d (seq_of c) ≡ p → Holds hs d → AllGive P (hears c ∷ hs)
    → AllByRecursion (IsForOne P) rest
    → AllByRecursion (IsForOne P)
    (latest (option_map (λ x. (x, task_now (after_at p c d).attempt)) (heard_at p c d).order) rest)
heard_for_it P hs d c Over rest is holds all k = k
heard_for_it P hs d c (Same a) rest is holds all k =
    ordered_for_it P hs (seq_of c) a.phase a.task (again a c).order rest (all_gave P (hears c) hs all)
    (came_for hs d (seq_of c) a is holds) (again_fits a c).0 k
heard_for_it P hs d (Standby n t) New rest is holds all k = new_for_it P hs (is_none d.doing) n t rest all k
heard_for_it P hs d (Go n) New rest is holds all k = k
heard_for_it P hs d (Cancel n) New rest is holds all k = k

pub all_for_it : (P : ℕ → Task → Type 0) (d over : ℕ) (hs : List Happening) → AllGive P hs
    → AllByRecursion (IsForOne P) (tasks_of (device_at_rest d over) hs)
all_for_it P d over [] all = tt
all_for_it P d over (hears c ∷ hs) all =
    let now : Device = device_after (device_at_rest d over) hs in
    heard_for_it P hs now c (place now (seq_of c)) (tasks_of (device_at_rest d over) hs) refl (device_holds d over hs)
    all (all_for_it P d over hs (all_gave P (hears c) hs all))
all_for_it P d over (tells t ∷ hs) all = all_for_it P d over hs (all_gave P (tells t) hs all)
all_for_it P d over (repeats ∷ hs) all = all_for_it P d over hs (all_gave P repeats hs all)
all_for_it P d over (hears_reply ∷ hs) all = all_for_it P d over hs (all_gave P hears_reply hs all)
all_for_it P d over (restarts n ∷ hs) all = all_for_it P d over hs (all_gave P (restarts n) hs all)

-- ---- by what a device gives up

-- each STANDBY that came gave one task, by the number
abbrev pub GivesOne : (ℕ → Task) → List Happening → Type 0
GivesOne f hs = AllGive (λ q t. t ≡ f q) hs

gave_one : (f : ℕ → Task) (h : Happening) (hs : List Happening) → GivesOne f (h ∷ hs) → GivesOne f hs
gave_one f h hs one = all_gave (λ q t. t ≡ f q) h hs one

-- an order to give up comes of a Cancel of its number
abbrev ComesOf : Command → Option Order → Type 0
ComesOf c None = Unit {0}
ComesOf c (Some (Prepare p)) = Unit {0}
ComesOf c (Some (Move p)) = Unit {0}
ComesOf c (Some (GiveUp p)) = c ≡ Cancel p

same_standby-comes : (c : Command) (n : ℕ) (p : Phase) → ComesOf c (same_standby n p).order
same_standby-comes c n Preparing = tt
same_standby-comes c n _ = tt

other_standby-comes : (c : Command) (n : ℕ) (p : Phase) → ((IsIdle p → ⊥) → ⊥) → ComesOf c (other_standby n p).order
other_standby-comes c n Preparing none = absurd (none (λ i. i))
other_standby-comes c n Ready none = absurd (none (λ i. i))
other_standby-comes c n _ none = tt

same_go-comes : (c : Command) (n : ℕ) (p : Phase) → ComesOf c (same_go n p).order
same_go-comes c n Preparing = tt
same_go-comes c n _ = tt

same_cancel-comes : (n : ℕ) (p : Phase) → ComesOf (Cancel n) (same_cancel n p).order
same_cancel-comes n Preparing = refl
same_cancel-comes n Ready = refl
same_cancel-comes n _ = tt

same_itself : (t : Task) → is_same_task t t ≡ true
same_itself t = join (same_text t.cue t.cue) (same_text t.bytes t.bytes) (same_text-itself t.cue)
    (same_text-itself t.bytes)

-- a STANDBY for the task that came is for that of the attempt
is_known : (f : ℕ → Task) (hs : List Happening) (n : ℕ) (p : Phase) (o : Option Task) (t : Task) → GivesOne f hs
    → CameFor hs n p o → t ≡ f n → (IsIdle p → ⊥) → is_for t o ≡ true
is_known f hs n p None t one came gives busy = absurd (busy came)
is_known f hs n p (Some s) t one came gives busy =
    subst (λ (r : Task). is_same_task s r ≡ true) (one n s came ∙ sym gives) (same_itself s)

standby_comes : (c : Command) (n : ℕ) (p : Phase) (same : Bool) → ((IsIdle p → ⊥) → same ≡ true)
    → ComesOf c (cond same (same_standby n p) (other_standby n p)).order
standby_comes c n p true known = same_standby-comes c n p
standby_comes c n p false known = other_standby-comes c n p (λ busy. true≢false (sym (known busy)))

again_comes : (f : ℕ → Task) (hs : List Happening) (a : Attempt) (c : Command) → GivesOne f (hears c ∷ hs)
    → CameFor hs (seq_of c) a.phase a.task → ComesOf c (again a c).order
again_comes f hs a (Standby n t) one came =
    standby_comes (Standby n t) n a.phase (is_for t a.task)
    (λ busy. is_known f hs n a.phase a.task t (gave_one f (hears (Standby n t)) hs one) came
    (one n t (0, omega arith, refl)) busy)
again_comes f hs a (Go n) one came = same_go-comes (Go n) n a.phase
again_comes f hs a (Cancel n) one came = same_cancel-comes n a.phase

new_standby-comes : (c : Command) (n : ℕ) (free : Bool) → ComesOf c (new_standby n free).order
new_standby-comes c n true = tt
new_standby-comes c n false = tt

new_number_comes : (free : Bool) (c : Command) → ComesOf c (new_number free c).order
new_number_comes free (Standby n t) = new_standby-comes (Standby n t) n free
new_number_comes free (Go n) = tt
new_number_comes free (Cancel n) = tt

heard_comes : (f : ℕ → Task) (hs : List Happening) (d : Device) (c : Command) (p : Place) → place d (seq_of c) ≡ p
    → Holds hs d → GivesOne f (hears c ∷ hs) → ComesOf c (heard_at p c d).order
heard_comes f hs d c Over is holds one = tt
heard_comes f hs d c (Same a) is holds one = again_comes f hs a c one (came_for hs d (seq_of c) a is holds)
heard_comes f hs d c New is holds one = new_number_comes (is_none d.doing) c

abbrev HasCome : List Happening → ℕ → Type 0
HasCome hs q = Contains hs (hears (Cancel q))

-- it was ordered to give up now, or before
given_up_by : (q : ℕ) (c : Command) (hs : List Happening) (o : Option Order) (os : List Order) → ComesOf c o
    → (has_given_up q os ≡ true → HasCome hs q) → has_given_up q (latest o os) ≡ true → HasCome (hears c ∷ hs) q
given_up_by q c hs None os comes before h = further (hears c) (hears (Cancel q)) hs (before h)
given_up_by q c hs (Some (Prepare p)) os comes before h = further (hears c) (hears (Cancel q)) hs (before h)
given_up_by q c hs (Some (Move p)) os comes before h = further (hears c) (hears (Cancel q)) hs (before h)
given_up_by q c hs (Some (GiveUp p)) os comes before h = by (nat_eq p q) refl h
  where
    by : (b : Bool) → nat_eq p q ≡ b → (b || has_given_up q os) ≡ true → HasCome (hears c ∷ hs) q
    by true same k = (0, omega arith, ap hears (comes ∙ ap Cancel (eqb-true p q same)))
    by false other k = further (hears c) (hears (Cancel q)) hs (before k)

pub gives_up_by_cancel : (f : ℕ → Task) (d over q : ℕ) (hs : List Happening) → GivesOne f hs
    → has_given_up q (orders_of (device_at_rest d over) hs) ≡ true → HasCome hs q
gives_up_by_cancel f d over q [] one h = absurd (true≢false (sym h))
gives_up_by_cancel f d over q (hears c ∷ hs) one h =
    let now : Device = device_after (device_at_rest d over) hs in
    given_up_by q c hs (order_at (hears c) now) (orders_of (device_at_rest d over) hs)
    (heard_comes f hs now c (place now (seq_of c)) refl (device_holds d over hs) one)
    (λ k. gives_up_by_cancel f d over q hs (gave_one f (hears c) hs one) k) h
gives_up_by_cancel f d over q (tells t ∷ hs) one h = further (tells t) (hears (Cancel q)) hs
    (gives_up_by_cancel f d over q hs (gave_one f (tells t) hs one) h)
gives_up_by_cancel f d over q (repeats ∷ hs) one h = further repeats (hears (Cancel q)) hs
    (gives_up_by_cancel f d over q hs (gave_one f repeats hs one) h)
gives_up_by_cancel f d over q (hears_reply ∷ hs) one h = further hears_reply (hears (Cancel q)) hs
    (gives_up_by_cancel f d over q hs (gave_one f hears_reply hs one) h)
gives_up_by_cancel f d over q (restarts n ∷ hs) one h = further (restarts n) (hears (Cancel q)) hs
    (gives_up_by_cancel f d over q hs (gave_one f (restarts n) hs one) h)
