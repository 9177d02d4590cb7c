-- A device answers that it stands by only after its machine told that it has prepared.
use Rattle.std.proofs.Common.{◌≡◌, ◌⊎◌, inl, inr, ℕ, Bool, true, false, cond, List, [], ◌∷◌, ◌||◌, Option, Some, None}
use Rattle.std.proofs.Common.{nat_eq, nat_lt, refl, sym, ap, ◌∙◌, subst, true≢false, arith, is_none}
use Rattle.cue_show.proofs.TestLemmas.{or_right}
use Rattle.std.specs.List.{Contains}
use Rattle.std.proofs.lemmas.Bool.{eqb-true}
use Rattle.cue_device.specs.declared.asked.Command.{Command}
use Rattle.cue_device.specs.declared.asked.Command.TheVariants.{Standby, Go, Cancel}
use Rattle.cue_device.specs.declared.hearing.Device.{Device}
use Rattle.cue_device.specs.declared.hearing.Place.{Place}
use Rattle.cue_device.specs.declared.hearing.Place.TheVariants.{Over, Same, New}
use Rattle.cue_device.specs.declared.hearing.Told.{Told}
use Rattle.cue_device.specs.declared.hearing.Told.TheVariants.{Prepared, Moved, GaveUp, Cannot}
use Rattle.cue_device.specs.declared.phase.Attempt.{Attempt}
use Rattle.cue_device.specs.declared.phase.Phase.{Phase}
use Rattle.cue_device.specs.declared.phase.Phase.TheVariants.{Preparing, Ready, Moving, Done, LettingGo, LetGo, Failed}
use Rattle.cue_device.specs.declared.words.Order.{Order}
use Rattle.cue_device.specs.declared.words.Answer.{Answer}
use Rattle.cue_device.specs.declared.words.Answer.TheVariants.{StandingBy, Complete, Cancelled, Abort}
use Rattle.cue_device.specs.Hearing.{again, answer_at, answer_ticked, heard_at, is_for, place, place_known}
use Rattle.cue_device.specs.Hearing.{device_at_rest}
use Rattle.cue_device.specs.Hearing.{seq_of, told_in, told_of}
use Rattle.cue_device.specs.Histories.{Happening, hears, tells, repeats, hears_reply, restarts, KeepsNumbers, answer_to}
use Rattle.cue_device.specs.Histories.{answers_of, device_after, latest, orders_of, unfinished_order}
use Rattle.cue_device.specs.Laws.{has_stood_by, is_standing_by}
use Rattle.cue_device.specs.Table.{new_number, answer_over, new_standby, other_standby, same_cancel, same_go}
use Rattle.cue_device.specs.Table.{same_standby}
use Rattle.cue_device.proofs.HistoryLemmas.{all_fits}
use Rattle.cue_device.proofs.FitsLemmas.{Stands}
use Rattle.cue_engine.proofs.AskedLemmas.{further}

-- ---- what an answer comes of

-- an answer that it stands by for q comes of this
abbrev ComesOf : Type 0 → ℕ → Option Answer → Type 0
ComesOf P q None = Unit {0}
ComesOf P q (Some (StandingBy p)) = p ≡ q → P
ComesOf P q (Some (Complete p)) = Unit {0}
ComesOf P q (Some (Cancelled p)) = Unit {0}
ComesOf P q (Some (Abort p)) = Unit {0}

-- the attempt of this number is ready
abbrev IsReady : ℕ → Phase → ℕ → Type 0
IsReady n p q = (p ≡ Ready) × (n ≡ q)

same_standby-comes : (n q : ℕ) (p : Phase) → ComesOf (IsReady n p q) q (same_standby n p).answer
same_standby-comes n q Ready = λ e. (refl, e)
same_standby-comes n q _ = tt

other_standby-comes : (P : Type 0) (n q : ℕ) (p : Phase) → ComesOf P q (other_standby n p).answer
other_standby-comes P n q Preparing = tt
other_standby-comes P n q _ = tt

same_go-comes : (P : Type 0) (n q : ℕ) (p : Phase) → ComesOf P q (same_go n p).answer
same_go-comes P n q Preparing = tt
same_go-comes P n q _ = tt

same_cancel-comes : (P : Type 0) (n q : ℕ) (p : Phase) → ComesOf P q (same_cancel n p).answer
same_cancel-comes P n q Preparing = tt
same_cancel-comes P n q _ = tt

standby_comes : (n q : ℕ) (p : Phase) (same : Bool)
    → ComesOf (IsReady n p q) q (cond same (same_standby n p) (other_standby n p)).answer
standby_comes n q p true = same_standby-comes n q p
standby_comes n q p false = other_standby-comes (IsReady n p q) n q p

again_comes : (q : ℕ) (a : Attempt) (c : Command) → ComesOf (IsReady (seq_of c) a.phase q) q (again a c).answer
again_comes q a (Standby n t) = standby_comes n q a.phase (is_for t a.task)
again_comes q a (Go n) = same_go-comes (IsReady n a.phase q) n q a.phase
again_comes q a (Cancel n) = same_cancel-comes (IsReady n a.phase q) n q a.phase

new_standby-comes : (P : Type 0) (n q : ℕ) (free : Bool) → ComesOf P q (new_standby n free).answer
new_standby-comes P n q true = tt
new_standby-comes P n q false = tt

new_number_comes : (P : Type 0) (q : ℕ) (free : Bool) (c : Command) → ComesOf P q (new_number free c).answer
new_number_comes P q free (Standby n t) = new_standby-comes P n q free
new_number_comes P q free (Go n) = tt
new_number_comes P q free (Cancel n) = tt

over_comes : (P : Type 0) (q : ℕ) (c : Command) → ComesOf P q (Some (answer_over c))
over_comes P q (Standby n t) = tt
over_comes P q (Go n) = tt
over_comes P q (Cancel n) = tt

told_comes : (t : Told) (q : ℕ) (p : Phase) → ComesOf (t ≡ Prepared q) q (told_in t p).answer
told_comes (Prepared n) q Preparing = λ e. ap Prepared e
told_comes (Prepared n) q _ = tt
told_comes (Moved n) q Preparing = tt
told_comes (Moved n) q _ = tt
told_comes (GaveUp n) q Preparing = tt
told_comes (GaveUp n) q _ = tt
told_comes (Cannot n) q Preparing = tt
told_comes (Cannot n) q _ = tt

answer_comes : (p : Place) (t : Told) (q : ℕ) → ComesOf (t ≡ Prepared q) q (answer_at p t)
answer_comes Over t q = tt
answer_comes (Same a) t q = told_comes t q a.phase
answer_comes New t q = tt

-- ---- the attempt that a command speaks of

pub place_same : (d : Device) (n : ℕ) (a : Attempt) → place d n ≡ Same a → (n ≡ d.last) × (d.attempt ≡ Some a)
place_same d n a e = at (nat_lt d.last n) e
  where
    known : (b : Bool) (o : Option Attempt) → nat_eq n d.last ≡ b → d.attempt ≡ o → place_known b o ≡ Same a
        → (n ≡ d.last) × (d.attempt ≡ Some a)
    known b None is has k = absurd cc
    known false (Some x) is has k = absurd cc
    known true (Some x) is has k = let same : x ≡ a = cc in (eqb-true n d.last is, has ∙ ap Some same)

    at : (b : Bool) → cond b New (place_known (nat_eq n d.last) d.attempt) ≡ Same a
        → (n ≡ d.last) × (d.attempt ≡ Some a)
    at true k = absurd cc
    at false k = known (nat_eq n d.last) d.attempt refl refl k

-- where a device that fits its answers is ready, it has said so
ready_said : (q : ℕ) (hs : List Happening) (d over : ℕ) → KeepsNumbers (device_at_rest d over) hs
    → (c : Command) (a : Attempt)
    → place (device_after (device_at_rest d over) hs) (seq_of c) ≡ Same a
    → IsReady (seq_of c) a.phase q → has_stood_by q (answers_of (device_at_rest d over) hs) ≡ true
ready_said q hs d over k c a is r =
    let now : Device = device_after (device_at_rest d over) hs in
    let fits = all_fits d over hs k in
    let at = place_same now (seq_of c) a is in
    let stands : Stands (Some a) now.last (orders_of (device_at_rest d over) hs) (answers_of (device_at_rest d over) hs)
    (unfinished_order (device_at_rest d over) hs) =
    subst (λ (o : Option Attempt). Stands o now.last (orders_of (device_at_rest d over) hs)
    (answers_of (device_at_rest d over) hs)
    (unfinished_order (device_at_rest d over) hs)) at.1 fits.stands in
    by (orders_of (device_at_rest d over) hs) (unfinished_order (device_at_rest d over) hs) a.phase r.0 (sym at.0
    ∙ r.1) stands
  where
    by : (os : List Order) (u : Option Order) (p : Phase) → p ≡ Ready
        → (device_after (device_at_rest d over) hs).last ≡ q
        → Stands (Some (record { phase = p; task = a.task })) (device_after (device_at_rest d over) hs).last os
        (answers_of (device_at_rest d over) hs) u
        → has_stood_by q (answers_of (device_at_rest d over) hs) ≡ true
    by os u Ready e same s = subst (λ (n : ℕ). has_stood_by n (answers_of (device_at_rest d over) hs) ≡ true) same s.1
    by os u Preparing e same s = absurd cc
    by os u Moving e same s = absurd cc
    by os u Done e same s = absurd cc
    by os u LettingGo e same s = absurd cc
    by os u LetGo e same s = absurd cc
    by os u Failed e same s = absurd cc

-- ---- all that happens

comes_by : {P R : Type 0} (q : ℕ) (o : Option Answer) → (P → R) → ComesOf P q o → ComesOf R q o
comes_by q None f h = tt
comes_by q (Some (StandingBy p)) f h = λ e. f (h e)
comes_by q (Some (Complete p)) f h = tt
comes_by q (Some (Cancelled p)) f h = tt
comes_by q (Some (Abort p)) f h = tt

-- what was answered was answered now, or before
latest_said : (P : Type 0) (q : ℕ) (o : Option Answer) (xs : List Answer) → ComesOf P q o
    → has_stood_by q (latest o xs) ≡ true → P ⊎ (has_stood_by q xs ≡ true)
latest_said P q None xs f h = inr h
latest_said P q (Some (StandingBy p)) xs f h = by (nat_eq p q) refl h
  where
    by : (b : Bool) → nat_eq p q ≡ b → (b || has_stood_by q xs) ≡ true → P ⊎ (has_stood_by q xs ≡ true)
    by true e k = inl (f (eqb-true p q e))
    by false e k = inr k
latest_said P q (Some (Complete p)) xs f h = inr h
latest_said P q (Some (Cancelled p)) xs f h = inr h
latest_said P q (Some (Abort p)) xs f h = inr h

-- a command is answered so only where that was said before
heard_comes : (q : ℕ) (hs : List Happening) (d over : ℕ) (c : Command) → KeepsNumbers (device_at_rest d over) hs
    → (p : Place)
    → place (device_after (device_at_rest d over) hs) (seq_of c) ≡ p
    → ComesOf (has_stood_by q (answers_of (device_at_rest d over) hs) ≡ true) q
    (heard_at p c (device_after (device_at_rest d over) hs)).answer
heard_comes q hs d over c k Over is = over_comes _ q c
heard_comes q hs d over c k (Same a) is = comes_by q (again a c).answer (λ r. ready_said q hs d over k c a is r)
    (again_comes q a c)
heard_comes q hs d over c k New is = new_number_comes _ q (is_none (device_after (device_at_rest d over) hs).doing) c

ticked_comes : (P : Type 0) (q : ℕ) (d : Device) → ComesOf P q (answer_ticked d)
ticked_comes P q d = by d.unheard
  where
    by : (b : Bool) → ComesOf P q (cond b (Some (Abort d.last)) None)
    by true = tt
    by false = tt

abbrev HasTold : List Happening → ℕ → Type 0
HasTold hs q = Contains hs (tells (Prepared q))

-- what was said before rests on what was told before
before : (q : ℕ) (h : Happening) (hs : List Happening) → HasTold hs q → HasTold (h ∷ hs) q
before q h hs told = further h (tells (Prepared q)) hs told

pub said_told : (d over q : ℕ) (hs : List Happening) → KeepsNumbers (device_at_rest d over) hs
    → has_stood_by q (answers_of (device_at_rest d over) hs) ≡ true → HasTold hs q
said_told d over q [] k h = absurd (true≢false (sym h))
said_told d over q (hears c ∷ hs) k h =
    by (λ e. said_told d over q hs k.1 e) (latest_said (has_stood_by q xs ≡ true) q (answer_to (hears c) now) xs
    (heard_comes q hs d over c k.1 (place now (seq_of c)) refl) h)
  where
    now : Device
    now = device_after (device_at_rest d over) hs

    xs : List Answer
    xs = answers_of (device_at_rest d over) hs

    by : (has_stood_by q xs ≡ true → HasTold hs q) → (has_stood_by q xs ≡ true) ⊎ (has_stood_by q xs ≡ true)
        → HasTold (hears c ∷ hs) q
    by f (inl e) = before q (hears c) hs (f e)
    by f (inr e) = before q (hears c) hs (f e)
said_told d over q (tells t ∷ hs) k h =
    by (λ e. said_told d over q hs k.1 e)
    (latest_said (t ≡ Prepared q) q (answer_to (tells t) now) xs (answer_comes (place now (told_of t)) t q) h)
  where
    now : Device
    now = device_after (device_at_rest d over) hs

    xs : List Answer
    xs = answers_of (device_at_rest d over) hs

    by : (has_stood_by q xs ≡ true → HasTold hs q) → (t ≡ Prepared q) ⊎ (has_stood_by q xs ≡ true)
        → HasTold (tells t ∷ hs) q
    by f (inl e) = (0, omega arith, ap tells e)
    by f (inr e) = before q (tells t) hs (f e)
said_told d over q (repeats ∷ hs) k h =
    by (λ e. said_told d over q hs k.1 e) (latest_said ⊥ q (answer_to repeats now) xs (ticked_comes ⊥ q now) h)
  where
    now : Device
    now = device_after (device_at_rest d over) hs

    xs : List Answer
    xs = answers_of (device_at_rest d over) hs

    by : (has_stood_by q xs ≡ true → HasTold hs q) → ⊥ ⊎ (has_stood_by q xs ≡ true) → HasTold (repeats ∷ hs) q
    by f (inl e) = absurd e
    by f (inr e) = before q repeats hs (f e)
said_told d over q (hears_reply ∷ hs) k h = before q hears_reply hs (said_told d over q hs k.1 h)
said_told d over q (restarts n ∷ hs) k h = before q (restarts n) hs (said_told d over q hs k.1 h)

-- what was said is said from then on
pub said_still : (d over q : ℕ) (h : Happening) (hs : List Happening)
    → has_stood_by q (answers_of (device_at_rest d over) hs) ≡ true
    → has_stood_by q (answers_of (device_at_rest d over) (h ∷ hs)) ≡ true
said_still d over q h hs said = by (answer_to h (device_after (device_at_rest d over) hs))
  where
    by : (o : Option Answer) → has_stood_by q (latest o (answers_of (device_at_rest d over) hs)) ≡ true
    by None = said
    by (Some x) = or_right (is_standing_by q x) _ said
