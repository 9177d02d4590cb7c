-- What holds of every device, whatever happens to it, with restarts that hand in a number at least that of each order.
use Rattle.std.specs.Prelude.{◌≡◌, ◌≤◌, ◌<◌, ℕ, Bool, true, false, List, Option, Some, None, nat_eq}
use Rattle.std.specs.List.{AllByRecursion, list_any}
use Rattle.cue_device.specs.declared.words.Order.{Order}
use Rattle.cue_device.specs.declared.words.Order.TheVariants.{Prepare, Move, GiveUp}
use Rattle.cue_device.specs.declared.words.Answer.{Answer}
use Rattle.cue_device.specs.declared.words.Answer.TheVariants.{StandingBy, Complete, Cancelled, Abort}
use Rattle.cue_device.specs.Hearing.{ordered_for, device_at_rest}
use Rattle.cue_device.specs.Histories.{Happening, KeepsNumbers, answers_of, device_after, order_at, orders_of}
use Rattle.cue_device.specs.Histories.{unfinished_order}

-- the order is to move for q
abbrev pub is_move : ℕ → Order → Bool
is_move q (Prepare p) = false
is_move q (Move p) = nat_eq p q
is_move q (GiveUp p) = false

-- the order is to give up for q
abbrev pub is_give_up : ℕ → Order → Bool
is_give_up q (Prepare p) = false
is_give_up q (Move p) = false
is_give_up q (GiveUp p) = nat_eq p q

-- the answer is that the device stands by for q
abbrev pub is_standing_by : ℕ → Answer → Bool
is_standing_by q (StandingBy p) = nat_eq p q
is_standing_by q (Complete p) = false
is_standing_by q (Cancelled p) = false
is_standing_by q (Abort p) = false

-- it was ordered to move for q; to give up for q; it answered that it stands by for q
abbrev pub has_moved : ℕ → List Order → Bool
has_moved q os = list_any (is_move q) os

abbrev pub has_given_up : ℕ → List Order → Bool
has_given_up q os = list_any (is_give_up q) os

abbrev pub has_stood_by : ℕ → List Answer → Bool
has_stood_by q xs = list_any (is_standing_by q) xs

-- it moves at most once for each number: an order to move for it is the first one
abbrev pub MovesOnce : Type 0
MovesOnce = (d over q : ℕ) (h : Happening) (hs : List Happening) → KeepsNumbers (device_at_rest d over) hs
    → order_at h (device_after (device_at_rest d over) hs) ≡ Some (Move q)
    → has_moved q (orders_of (device_at_rest d over) hs) ≡ false

-- it never moves for a number for which it was ordered to give up
abbrev pub NeverMovesAfterGivingUp : Type 0
NeverMovesAfterGivingUp = (d over q : ℕ) (h : Happening) (hs : List Happening) → KeepsNumbers (device_at_rest d over) hs
    → order_at h (device_after (device_at_rest d over) hs) ≡ Some (Move q)
    → has_given_up q (orders_of (device_at_rest d over) hs) ≡ false

-- and the other way round
abbrev pub NeverGivesUpAfterMoving : Type 0
NeverGivesUpAfterMoving = (d over q : ℕ) (h : Happening) (hs : List Happening) → KeepsNumbers (device_at_rest d over) hs
    → order_at h (device_after (device_at_rest d over) hs) ≡ Some (GiveUp q)
    → has_moved q (orders_of (device_at_rest d over) hs) ≡ false

-- it moves only for a number for which it answered before that it stands by
abbrev pub MovesAfterStandingBy : Type 0
MovesAfterStandingBy = (d over q : ℕ) (h : Happening) (hs : List Happening) → KeepsNumbers (device_at_rest d over) hs
    → order_at h (device_after (device_at_rest d over) hs) ≡ Some (Move q)
    → has_stood_by q (answers_of (device_at_rest d over) hs) ≡ true

-- an order may come: the machine has reported the end of the last one; or it prepares, and is to give that up
abbrev pub MayCome : Option Order → Order → Type 0
MayCome None o = Unit {0}
MayCome (Some u) o = (q : ℕ) × (u ≡ Prepare q) × (o ≡ GiveUp q)

-- it is ordered one thing at a time
abbrev pub OneAtATime : Type 0
OneAtATime = (d over : ℕ) (h : Happening) (hs : List Happening) (o : Order) → KeepsNumbers (device_at_rest d over) hs
    → order_at h (device_after (device_at_rest d over) hs) ≡ Some o
    → MayCome (unfinished_order (device_at_rest d over) hs) o

-- the numbers of orders never fall
abbrev pub NumbersRise : Type 0
NumbersRise = (d over : ℕ) (h : Happening) (hs : List Happening) (o : Order) → KeepsNumbers (device_at_rest d over) hs
    → order_at h (device_after (device_at_rest d over) hs) ≡ Some o
    → AllByRecursion (λ p. ordered_for p ≤ ordered_for o) (orders_of (device_at_rest d over) hs)

-- and it prepares once for each number: above that of each order before
abbrev pub PreparesOnce : Type 0
PreparesOnce = (d over q : ℕ) (h : Happening) (hs : List Happening) → KeepsNumbers (device_at_rest d over) hs
    → order_at h (device_after (device_at_rest d over) hs) ≡ Some (Prepare q)
    → AllByRecursion (λ p. ordered_for p < q) (orders_of (device_at_rest d over) hs)
