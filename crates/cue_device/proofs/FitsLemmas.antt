-- What fits the state of a device: what it has ordered and answered, and what is unfinished.
use Rattle.std.proofs.Common.{◌≡◌, ℕ, ◌<◌, ◌≤◌, Bool, true, false, cond, eqb, List, [], ◌∷◌, Option, Some, None}
use Rattle.std.proofs.Common.{refl, ap, arith}
use Rattle.std.specs.List.{AllByRecursion}
use Rattle.std.proofs.lemmas.Bool.Decides.{nat_tests}
use Rattle.std.proofs.Math.Bool.{or-true}
use Rattle.cue_device.specs.declared.hearing.Device.{Device}
use Rattle.cue_device.specs.declared.hearing.Heard.{Heard}
use Rattle.cue_device.specs.declared.hearing.Told.{Told}
use Rattle.cue_device.specs.declared.phase.Attempt.{Attempt}
use Rattle.cue_device.specs.declared.phase.Phase.{Phase}
use Rattle.cue_device.specs.declared.phase.Phase.TheVariants.{Preparing, Ready, Moving, Done, LettingGo, LetGo, Failed}
use Rattle.cue_device.specs.declared.words.Order.{Order}
use Rattle.cue_device.specs.declared.words.Order.TheVariants.{Prepare, Move, GiveUp}
use Rattle.cue_device.specs.declared.words.Answer.{Answer}
use Rattle.cue_device.specs.Hearing.{doing_after, ends, after_report}
use Rattle.cue_device.specs.Hearing.{left_after, ordered_for}
use Rattle.cue_device.specs.Histories.{latest}
use Rattle.cue_device.specs.Laws.{has_given_up, has_moved, has_stood_by, is_give_up, is_move}

-- ---- numbers of orders

-- each order is for at most this number
abbrev pub UpTo : ℕ → List Order → Type 0
UpTo m os = AllByRecursion (λ o. ordered_for o ≤ m) os

pub up_to-more : (m n : ℕ) (os : List Order) → m ≤ n → UpTo m os → UpTo n os
up_to-more m n [] le h = tt
up_to-more m n (o ∷ os) le h = let one : ordered_for o ≤ m = h.0 in (omega arith, up_to-more m n os le h.1)

pub all_below : (m n : ℕ) (os : List Order) → m < n → UpTo m os → AllByRecursion (λ o. ordered_for o < n) os
all_below m n [] lt h = tt
all_below m n (o ∷ os) lt h = let one : ordered_for o ≤ m = h.0 in (omega arith, all_below m n os lt h.1)

pub all_up_to : (n : ℕ) (os : List Order) → AllByRecursion (λ o. ordered_for o < n) os → UpTo n os
all_up_to n [] h = tt
all_up_to n (o ∷ os) h = let one : ordered_for o < n = h.0 in (omega arith, all_up_to n os h.1)

other : (p m q : ℕ) → p ≤ m → m < q → eqb p q ≡ false
other p m q le lt = grind (arith, nat_tests)

no_move : (m q : ℕ) (o : Order) → m < q → ordered_for o ≤ m → is_move q o ≡ false
no_move m q (Prepare p) lt le = refl
no_move m q (Move p) lt le = other p m q le lt
no_move m q (GiveUp p) lt le = refl

no_give_up : (m q : ℕ) (o : Order) → m < q → ordered_for o ≤ m → is_give_up q o ≡ false
no_give_up m q (Prepare p) lt le = refl
no_give_up m q (Move p) lt le = refl
no_give_up m q (GiveUp p) lt le = other p m q le lt

-- nothing was ordered for a number above all
pub not_moved : (m q : ℕ) (os : List Order) → m < q → UpTo m os → has_moved q os ≡ false
not_moved m q [] lt h = refl
not_moved m q (o ∷ os) lt h = rw (no_move m q o lt h.0) (not_moved m q os lt h.1)

pub not_given_up : (m q : ℕ) (os : List Order) → m < q → UpTo m os → has_given_up q os ≡ false
not_given_up m q [] lt h = refl
not_given_up m q (o ∷ os) lt h = rw (no_give_up m q o lt h.0) (not_given_up m q os lt h.1)

-- ---- what is kept

-- nothing was ordered for q but to prepare
abbrev pub Untouched : ℕ → List Order → Type 0
Untouched q os = (has_moved q os ≡ false) × (has_given_up q os ≡ false)

-- the machine is free, or prepares for q
abbrev pub OnlyPrepares : ℕ → Option Order → Type 0
OnlyPrepares q None = Unit {0}
OnlyPrepares q (Some o) = o ≡ Prepare q

-- what is known in each phase of the attempt q
abbrev pub StandsIn : Phase → ℕ → List Order → List Answer → Option Order → Type 0
StandsIn Preparing q os xs u = Untouched q os × OnlyPrepares q u
StandsIn Ready q os xs u = Untouched q os × (has_stood_by q xs ≡ true) × (u ≡ None)
StandsIn Moving q os xs u = has_given_up q os ≡ false
StandsIn Done q os xs u = has_given_up q os ≡ false
StandsIn LettingGo q os xs u = has_moved q os ≡ false
StandsIn LetGo q os xs u = has_moved q os ≡ false
StandsIn Failed q os xs u = Unit {0}

abbrev pub Stands : Option Attempt → ℕ → List Order → List Answer → Option Order → Type 0
Stands None q os xs u = Unit {0}
Stands (Some a) q os xs u = StandsIn a.phase q os xs u

-- the state of a device fits what it has ordered and answered, and what is unfinished
pub record Fits (d : Device) (os : List Order) (xs : List Answer) (u : Option Order) : Type 0 where
  pub bounded : UpTo d.last os
  pub doing : d.doing ≡ u
  pub stands : Stands d.attempt d.last os xs u

-- what an order rests on
abbrev pub Lawful : Order → List Order → List Answer → Option Order → Type 0
Lawful (Prepare q) os xs u = AllByRecursion (λ o. ordered_for o < q) os × (u ≡ None)
Lawful (Move q) os xs u = Untouched q os × (has_stood_by q xs ≡ true) × (u ≡ None) × UpTo q os
Lawful (GiveUp q) os xs u = (has_moved q os ≡ false) × OnlyPrepares q u × UpTo q os

abbrev pub LawfulIf : Option Order → List Order → List Answer → Option Order → Type 0
LawfulIf None os xs u = Unit {0}
LawfulIf (Some o) os xs u = Lawful o os xs u

-- a step: what is ordered is lawful, and all fits again
pub record Goes (os : List Order) (xs : List Answer) (u : Option Order) (new : Device) (heard : Heard) : Type 0 where
  pub lawful : LawfulIf heard.order os xs u
  pub fits : Fits new (latest heard.order os) (latest heard.answer xs) (doing_after heard.order u)

-- ---- answers and tellings keep what is known

pub more_answers : (p : Phase) (q : ℕ) (os : List Order) (x : Answer) (xs : List Answer) (u : Option Order)
    → StandsIn p q os xs u → StandsIn p q os (x ∷ xs) u
more_answers Preparing q os x xs u s = s
more_answers Ready q os x xs u s = (s.0, rw s.1 (or-true _), s.2)
more_answers Moving q os x xs u s = s
more_answers Done q os x xs u s = s
more_answers LettingGo q os x xs u s = s
more_answers LetGo q os x xs u s = s
more_answers Failed q os x xs u s = s

answered_more : (a : Option Attempt) (q : ℕ) (os : List Order) (x : Option Answer) (xs : List Answer) (u : Option Order)
    → Stands a q os xs u → Stands a q os (latest x xs) u
answered_more None q os x xs u s = tt
answered_more (Some a) q os None xs u s = s
answered_more (Some a) q os (Some x) xs u s = more_answers a.phase q os x xs u s

pub answers_more : (d : Device) (os : List Order) (x : Option Answer) (xs : List Answer) (u : Option Order)
    → Fits d os xs u → Fits d os (latest x xs) u
answers_more d os x xs u f =
    record { bounded = f.bounded; doing = f.doing; stands = answered_more d.attempt d.last os x xs u f.stands }

chosen_prepares : (q : ℕ) (b : Bool) (o : Order) → o ≡ Prepare q → OnlyPrepares q (cond b None (Some o))
chosen_prepares q true o h = tt
chosen_prepares q false o h = h

left_prepares : (t : Told) (q : ℕ) (u : Option Order) → OnlyPrepares q u → OnlyPrepares q (left_after t u)
left_prepares t q None h = tt
left_prepares t q (Some o) h = chosen_prepares q (ends o t) o h

less_to_do : (t : Told) (p : Phase) (q : ℕ) (os : List Order) (xs : List Answer) (u : Option Order)
    → StandsIn p q os xs u → StandsIn p q os xs (left_after t u)
less_to_do t Preparing q os xs u s = (s.0, left_prepares t q u s.1)
less_to_do t Ready q os xs u s = (s.0, s.1, ap (left_after t) s.2)
less_to_do t Moving q os xs u s = s
less_to_do t Done q os xs u s = s
less_to_do t LettingGo q os xs u s = s
less_to_do t LetGo q os xs u s = s
less_to_do t Failed q os xs u s = s

left_to_do : (t : Told) (a : Option Attempt) (q : ℕ) (os : List Order) (xs : List Answer) (u : Option Order)
    → Stands a q os xs u → Stands a q os xs (left_after t u)
left_to_do t None q os xs u s = tt
left_to_do t (Some a) q os xs u s = less_to_do t a.phase q os xs u s

pub freed_fits : (t : Told) (d : Device) (os : List Order) (xs : List Answer) (u : Option Order) → Fits d os xs u
    → Fits (after_report t d) os xs (left_after t u)
freed_fits t d os xs u f =
    record {
      bounded = f.bounded;
      doing = ap (left_after t) f.doing;
      stands =
          left_to_do t d.attempt d.last os xs u f.stands;
    }
