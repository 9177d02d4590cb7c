-- A device is ordered to move for a number at most once.
use Rattle.std.proofs.Common.{◌≡◌, ℕ, ◌+◌, ◌≤◌, Bool, true, false, cond, List, [], ◌∷◌, ◌||◌, Option, Some, None}
use Rattle.std.proofs.Common.{nat_eq, refl, arith, ap, ◌∙◌, true≢false}
use Rattle.std.specs.List.{count_by}
use Rattle.std.proofs.lemmas.Bool.{eqb-true}
use Rattle.std.proofs.lemmas.List.Sums.{sum_by-cons}
use Rattle.cue_device.specs.declared.words.Order.{Order}
use Rattle.cue_device.specs.declared.words.Order.TheVariants.{Prepare, Move, GiveUp}
use Rattle.cue_device.specs.Hearing.{device_at_rest}
use Rattle.cue_device.specs.Histories.{Happening, KeepsNumbers, device_after, latest, order_at, orders_of}
use Rattle.cue_device.specs.Laws.{has_moved, is_move}
use Rattle.cue_device.proofs.HistoryLemmas.{all_lawful}
use Rattle.cue_stage.specs.Stage.{life_of}
use Rattle.cue_stage.specs.Laws.{MovesOnce}
use Rattle.cue_stage.proofs.LifeLemmas.{keeps_numbers}

counted : (q : ℕ) (o : Order) (os : List Order)
    → count_by (is_move q) (o ∷ os) ≡ cond (is_move q o) 1 0 + count_by (is_move q) os
counted q o os = sum_by-cons (λ (x : Order). cond (is_move q x) 1 0) o os

none_is_zero : (q : ℕ) (os : List Order) → has_moved q os ≡ false → count_by (is_move q) os ≡ 0
none_is_zero q [] h = refl
none_is_zero q (o ∷ os) h = counted q o os ∙ by (is_move q o) h (λ k. none_is_zero q os k)
  where
    by : (b : Bool) → (b || has_moved q os) ≡ false → (has_moved q os ≡ false → count_by (is_move q) os ≡ 0)
        → cond b 1 0 + count_by (is_move q) os ≡ 0
    by true k f = absurd (true≢false k)
    by false k f = let none = f k in omega arith

one_more : (q : ℕ) (os : List Order) (o : Order) → count_by (is_move q) os ≤ 1 → (o ≡ Move q → has_moved q os ≡ false)
    → count_by (is_move q) (o ∷ os) ≤ 1
one_more q os (Prepare p) h f = let e : count_by (is_move q) (Prepare p ∷ os) ≡ 0 + count_by (is_move q) os =
    counted q (Prepare p) os in omega arith
one_more q os (GiveUp p) h f = let e : count_by (is_move q) (GiveUp p ∷ os) ≡ 0 + count_by (is_move q) os =
    counted q (GiveUp p) os in omega arith
one_more q os (Move p) h f = let e = counted q (Move p) os in rw e (by (nat_eq p q) refl)
  where
    by : (b : Bool) → nat_eq p q ≡ b → cond b 1 0 + count_by (is_move q) os ≤ 1
    by true e = let none : count_by (is_move q) os ≡ 0 = none_is_zero q os (f (ap Move (eqb-true p q e))) in omega arith
    by false e = omega arith

latest_more : (q : ℕ) (os : List Order) (o : Option Order) → count_by (is_move q) os ≤ 1
    → (o ≡ Some (Move q) → has_moved q os ≡ false) → count_by (is_move q) (latest o os) ≤ 1
latest_more q os None h f = h
latest_more q os (Some o) h f = one_more q os o h (λ e. f (ap Some e))

device_once : (d over q : ℕ) (hs : List Happening) → KeepsNumbers (device_at_rest d over) hs
    → count_by (is_move q) (orders_of (device_at_rest d over) hs) ≤ 1
device_once d over q [] k = omega arith
device_once d over q (h ∷ hs) k =
    latest_more q (orders_of (device_at_rest d over) hs) (order_at h (device_after (device_at_rest d over) hs))
    (device_once d over q hs k.1) (λ e. (all_lawful d over h hs (Move q) k.1 e).0.0)

pub moves_once : MovesOnce
moves_once from past d q h = device_once d (from.over d) q (life_of d past) (keeps_numbers from past d h)
