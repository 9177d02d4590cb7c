-- The copies of a wake, one by one.
use Rattle.std.proofs.Common.{◌≡◌, ℕ, zero, suc, ◌+◌, ◌*◌, ◌/◌, ◌%◌, ◌<◌, ◌≤◌, Bool, true, false, cond, List, []}
use Rattle.std.proofs.Common.{◌∷◌, ◌++◌, ◌⊎◌, inl, inr, length, Option, Some, None, refl, sym, ap, ◌∙◌, subst, arith}
use Rattle.std.specs.Prelude.{Contains, count_by, slice_set}
use Rattle.std.proofs.lemmas.Bool.{eq-eqb, ne_eqb}
use Rattle.std.proofs.lemmas.List.Elements.{Contains-append_cases, Contains-append_left, Contains-append_right}
use Rattle.std.proofs.lemmas.List.Elements.{Contains-push_cases}
use Rattle.std.proofs.lemmas.List.Sums.{sum_by-append}
use Rattle.cue_machine.specs.declared.post.Output.TheVariants as output
use Rattle.cue_machine.specs.Posting.{given_as}
use Rattle.cue_relay.specs.declared.route.Opening.{Opening}
use Rattle.cue_relay.specs.declared.route.Side.TheVariants.{Stage}
use Rattle.cue_relay.specs.Relayed.{Sending}
use Rattle.cue_relay_machine.specs.declared.copies.Waiting.{Waiting}
use Rattle.cue_relay_machine.specs.Copied.{is_by}
use Rattle.cue_relay_machine.specs.Copies.{copies_given, copy_given, is_said, wait_at}
use Rattle.cue_relay_machine.specs.Places.{opening_at, relay_address}
use Rattle.cue_relay_machine.specs.Turns.{sendings}
use Rattle.cue_relay_machine.proofs.LifeLemmas.{sendings_both}

-- the datagram that a copy is
abbrev pub copy_of : ℕ → Waiting → Sending
copy_of route w = record {
  way = record { out = record { route = route; side = Stage }; to = relay_address w.to };
  bytes = w.bytes;
}

-- its socket is that of the stage's side
stage_place : (route : ℕ) → opening_at (2 * route + 1) ≡ record { route = route; side = Stage }
stage_place route =
    let half : (2 * route + 1) / 2 ≡ route = omega arith in
    let odd : (2 * route + 1) % 2 ≡ 1 = omega arith in
    rw (half, odd) refl

-- the copy of one route, and those of the routes from one on
abbrev pub copies_one : ℕ → Option Waiting → ℕ → List Sending
copies_one route None now = []
copies_one route (Some w) now = cond (is_said w now) (copy_of route w ∷ []) []

abbrev pub copies_from : ℕ → List (Option Waiting) → ℕ → List Sending
copies_from route [] now = []
copies_from route (o ∷ os) now = copies_one route o now ++ copies_from (route + 1) os now

one_is : (route : ℕ) (o : Option Waiting) (now : ℕ)
    → sendings (copy_given (2 * route + 1) o now) ≡ copies_one route o now
one_is route None now = refl
one_is route (Some w) now = by (is_said w now)
  where
    by : (b : Bool) → sendings (cond b (given_as (output.Send (2 * route + 1) w.to) w.bytes ∷ []) [])
        ≡ cond b (copy_of route w ∷ []) []
    by true =
        ap (λ (x : Opening). record { way = record { out = x; to = relay_address w.to }; bytes = w.bytes } ∷ [])
        (stage_place route)
    by false = refl

pub from_is : (route : ℕ) (os : List (Option Waiting)) (now : ℕ)
    → sendings (copies_given route os now) ≡ copies_from route os now
from_is route [] now = refl
from_is route (o ∷ os) now =
    sendings_both (copy_given (2 * route + 1) o now) (copies_given (route + 1) os now)
    ∙ (ap (λ (ss : List Sending). ss ++ sendings (copies_given (route + 1) os now)) (one_is route o now)
    ∙ ap (λ (ss : List Sending). copies_one route o now ++ ss) (from_is (route + 1) os now))

-- ---- how many

-- how many copies are said now of what waits
abbrev pub said_count : Option Waiting → ℕ → ℕ
said_count None now = 0
said_count (Some w) now = cond (is_said w now) 1 0

count_both : (n : ℕ) (xs ys : List Sending)
    → count_by (is_by n) (xs ++ ys) ≡ count_by (is_by n) xs + count_by (is_by n) ys
count_both n xs ys = sum_by-append (λ x. cond (is_by n x) 1 0) xs ys

count_same : (n route : ℕ) (o : Option Waiting) (now : ℕ) → n ≡ route
    → count_by (is_by n) (copies_one route o now) ≡ said_count o now
count_same n route None now e = refl
count_same n route (Some w) now e = by (is_said w now)
  where
    by : (b : Bool) → count_by (is_by n) (cond b (copy_of route w ∷ []) []) ≡ cond b 1 0
    by true = rw (eq-eqb route n (sym e)) refl
    by false = refl

count_other : (n route : ℕ) (o : Option Waiting) (now : ℕ) → n < route ⊎ route < n
    → count_by (is_by n) (copies_one route o now) ≡ 0
count_other n route None now e = refl
count_other n route (Some w) now e = by (is_said w now)
  where
    not_same : route ≡ n → ⊥
    not_same k = elim e [ inl l ↦ omega (arith, k, l) | inr l ↦ omega (arith, k, l) ]

    by : (b : Bool) → count_by (is_by n) (cond b (copy_of route w ∷ []) []) ≡ 0
    by true = rw (ne_eqb route n not_same) refl
    by false = refl

count_past : (n route : ℕ) (os : List (Option Waiting)) (now : ℕ) → n < route
    → count_by (is_by n) (copies_from route os now) ≡ 0
count_past n route [] now h = refl
count_past n route (o ∷ os) now h =
    let more = count_past n (route + 1) os now (omega (arith, h)) in
    omega (
      arith,
      count_both n (copies_one route o now) (copies_from (route + 1) os now),
      count_other n route o now (inl h),
      more,
    )

-- by the route n as many are sent as of what waits there
pub count_at : (n route j : ℕ) (os : List (Option Waiting)) (now : ℕ) → n ≡ route + j
    → count_by (is_by n) (copies_from route os now) ≡ said_count (wait_at os j) now
count_at n route j [] now e = refl
count_at n route zero (o ∷ os) now e =
    let none = count_past n (route + 1) os now (omega (arith, e)) in
    omega (
      arith,
      count_both n (copies_one route o now) (copies_from (route + 1) os now),
      count_same n route o now (omega (arith, e)),
      none,
    )
count_at n route (suc j) (o ∷ os) now e =
    let more = count_at n (route + 1) j os now (omega (arith, e)) in
    omega (
      arith,
      count_both n (copies_one route o now) (copies_from (route + 1) os now),
      count_other n route o now (inr (omega (arith, e))),
      more,
    )

-- ---- which

-- one of the copies is that of what waits at a route
pub record IsOf (route : ℕ) (os : List (Option Waiting)) (now : ℕ) (s : Sending) : Type 0 where
  pub nth : ℕ
  pub w : Waiting
  pub waits : wait_at os nth ≡ Some w
  pub said : is_said w now ≡ true
  pub same : copy_of (route + nth) w ≡ s

pub in_one : {X : Type 0} (x y : X) → Contains (x ∷ []) y → x ≡ y
in_one x y h = elim (Contains-push_cases [] x y h) [ inl k ↦ absurd (omega (arith, k.1)) | inr e ↦ e ]

pub none_in : {X : Type 0} {P : Type 0} (y : X) → Contains [] y → P
none_in y h = absurd (omega (arith, h.1))

of_one : (route : ℕ) (o : Option Waiting) (os : List (Option Waiting)) (now : ℕ) (s : Sending)
    → Contains (copies_one route o now) s → IsOf route (o ∷ os) now s
of_one route None os now s h = none_in s h
of_one route (Some w) os now s h = by (is_said w now) refl h
  where
    by : (b : Bool) → is_said w now ≡ b → Contains (cond b (copy_of route w ∷ []) []) s
        → IsOf route (Some w ∷ os) now s
    by true e k = record {
      nth = 0;
      w = w;
      waits = refl;
      said = e;
      same = subst (λ (n : ℕ). copy_of n w ≡ s) (omega arith) (in_one (copy_of route w) s k);
    }
    by false e k = none_in s k

of_more : (route : ℕ) (o : Option Waiting) (os : List (Option Waiting)) (now : ℕ) (s : Sending)
    → IsOf (route + 1) os now s → IsOf route (o ∷ os) now s
of_more route o os now s k = record {
  nth = suc k.nth;
  w = k.w;
  waits = k.waits;
  said = k.said;
  same = ap (λ (n : ℕ). copy_of n k.w) (omega arith) ∙ k.same;
}

pub of_from : (route : ℕ) (os : List (Option Waiting)) (now : ℕ) (s : Sending)
    → Contains (copies_from route os now) s → IsOf route os now s
of_from route [] now s h = none_in s h
of_from route (o ∷ os) now s h =
    elim (Contains-append_cases (copies_one route o now) (copies_from (route + 1) os now) s h) [
      | inl one ↦ of_one route o os now s one
      | inr more ↦ of_more route o os now s (of_from (route + 1) os now s more)
    ]

-- and what waits at a route and is said now is one of them
pub from_at : (n route j : ℕ) (os : List (Option Waiting)) (now : ℕ) (w : Waiting) → n ≡ route + j
    → wait_at os j ≡ Some w → is_said w now ≡ true → Contains (copies_from route os now) (copy_of n w)
from_at n route j [] now w e f said = absurd cc
from_at n route zero (o ∷ os) now w e f said =
    let one : copies_one route o now ≡ copy_of n w ∷ [] =
    ap (λ (x : Option Waiting). copies_one route x now) f
    ∙ (ap (λ (b : Bool). cond b (copy_of route w ∷ []) []) said
    ∙ ap (λ (k : ℕ). copy_of k w ∷ []) (omega (arith, e))) in
    Contains-append_left (copies_one route o now) (copies_from (route + 1) os now) (copy_of n w)
    (subst (λ (ss : List Sending). Contains ss (copy_of n w)) (sym one) (0, omega arith, refl))
from_at n route (suc j) (o ∷ os) now w e f said =
    Contains-append_right (copies_one route o now) (copies_from (route + 1) os now) (copy_of n w)
    (from_at n (route + 1) j os now w (omega (arith, e)) f said)

-- ---- lists

pub wait_past : (os : List (Option Waiting)) (n : ℕ) → length os ≤ n → wait_at os n ≡ None
wait_past [] n h = refl
wait_past (o ∷ os) zero h = absurd (omega (arith, h))
wait_past (o ∷ os) (suc n) h = wait_past os n (omega (arith, h))

pub set_past : (os : List (Option Waiting)) (n : ℕ) (o : Option Waiting) → length os ≤ n → slice_set os n o ≡ os
set_past [] n o h = refl
set_past (x ∷ os) zero o h = absurd (omega (arith, h))
set_past (x ∷ os) (suc n) o h = ap (λ (xs : List (Option Waiting)). x ∷ xs) (set_past os n o (omega (arith, h)))
