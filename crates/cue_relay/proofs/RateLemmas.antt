-- Of one device at most a hundred datagrams a second go on to the controller.
use Rattle.std.proofs.Common.{◌≡◌, ◌≢◌, ℕ, zero, suc, ◌+◌, ◌-◌, ◌≤◌, ◌<◌, Bool, true, false, ◌&&◌, ◌||◌, ◌==◌, cond}
use Rattle.std.proofs.Common.{nat_le, nat_lt, ◌⊎◌, inl, inr, List, [], ◌∷◌, ◌++◌, length, take, replicate, Option}
use Rattle.std.proofs.Common.{Some, None, refl, sym, ap, ◌∙◌, subst, arith}
use Rattle.std.specs.Prelude.{slice_get, slice_set, is_some}
use Rattle.std.proofs.lemmas.Bool.{eqb-true, eqb-false, ltb-true, ltb-false, leb-true}
use Rattle.std.proofs.lemmas.List.{length-replicate}
use Rattle.std.proofs.lemmas.Option.{none-some, same_Some}
use Rattle.std.proofs.Math.ListN.{length-set}
use Rattle.cue_relay.specs.declared.going.Going.{Going}
use Rattle.cue_relay.specs.declared.rate.TheConstants.{RATE, SECOND}
use Rattle.cue_relay.specs.declared.relaying.Relay.{Relay}
use Rattle.cue_relay.specs.declared.route.Address.{Address}
use Rattle.cue_relay.specs.declared.route.Opening.{Opening}
use Rattle.cue_relay.specs.declared.route.Side.{Side}
use Rattle.cue_relay.specs.declared.route.Side.TheVariants.{Controller, Stage}
use Rattle.cue_relay.specs.Laws.{AtMostAHundred, is_controller}
use Rattle.cue_relay.specs.Rates.{is_past, is_past_or_none, has_room, times_of, times_after, admits}
use Rattle.cue_relay.specs.Rates.{admits_at, meters_after, meters_at}
use Rattle.cue_relay.specs.Relayed.{Answer, comes, ticks, goes_on, no_times, times_then, way_and_message}
use Rattle.cue_relay.specs.Relaying.{across}
use Rattle.cue_relay.proofs.WayLemmas.{Goes, goes}

-- ---- lists of times

take_shorter : (n : ℕ) (xs : List ℕ) → take n (take (suc n) xs) ≡ take n xs
take_shorter zero xs = refl
take_shorter (suc n) [] = refl
take_shorter (suc n) (x ∷ xs) = ap (λ (ys : List ℕ). x ∷ ys) (take_shorter n xs)

take_again : (n x : ℕ) (xs : List ℕ) → take n (x ∷ take n xs) ≡ take n (x ∷ xs)
take_again zero x xs = refl
take_again (suc n) x xs = ap (λ (ys : List ℕ). x ∷ ys) (take_shorter n xs)

get_taken : (n i : ℕ) (xs : List ℕ) → i < n → slice_get (take n xs) i ≡ slice_get xs i
get_taken zero i xs h = absurd (omega arith)
get_taken (suc n) i [] h = refl
get_taken (suc n) zero (x ∷ xs) h = refl
get_taken (suc n) (suc i) (x ∷ xs) h = let less : i < n = omega arith in get_taken n i xs less

some_within : {X : Type 0} (xs : List X) (i : ℕ) (x : X) → slice_get xs i ≡ Some x → i < length xs
some_within [] i x h = absurd (none-some x h)
some_within (y ∷ ys) zero x h = omega arith
some_within (y ∷ ys) (suc i) x h = let less : i < length ys = some_within ys i x h in omega arith

-- ---- the times of one route

set_same : (ms : List (List ℕ)) (k : ℕ) (t : List ℕ) → k < length ms → times_of (slice_set ms k t) k ≡ t
set_same [] k t h = absurd (omega arith)
set_same (m ∷ ms) zero t h = refl
set_same (m ∷ ms) (suc k) t h = let less : k < length ms = omega arith in set_same ms k t less

set_other : (ms : List (List ℕ)) (j k : ℕ) (t : List ℕ) → j ≢ k → times_of (slice_set ms j t) k ≡ times_of ms k
set_other [] j k t h = refl
set_other (m ∷ ms) zero zero t h = absurd (h refl)
set_other (m ∷ ms) zero (suc k) t h = refl
set_other (m ∷ ms) (suc j) zero t h = refl
set_other (m ∷ ms) (suc j) (suc k) t h = set_other ms j k t (λ e. h (ap suc e))

set_self : (ms : List (List ℕ)) (j k : ℕ) → times_of (slice_set ms j (times_of ms j)) k ≡ times_of ms k
set_self [] j k = refl
set_self (m ∷ ms) zero zero = refl
set_self (m ∷ ms) zero (suc k) = refl
set_self (m ∷ ms) (suc j) zero = refl
set_self (m ∷ ms) (suc j) (suc k) = set_self ms j k

none_yet : (n k : ℕ) → times_of (replicate n []) k ≡ []
none_yet zero k = refl
none_yet (suc n) zero = refl
none_yet (suc n) (suc k) = none_yet n k

-- ---- one after the other

-- each is past the n-th before it, where before has those before the first, the latest first
abbrev SpacedBy : ℕ → List ℕ → List ℕ → Type 0
SpacedBy n before [] = Unit {0}
SpacedBy n before (t ∷ ts) = (is_past_or_none (slice_get before n) t ≡ true) × SpacedBy n (t ∷ before) ts

later : (n j k : ℕ) (before ts : List ℕ) (first last : ℕ) → j + k ≡ n → SpacedBy n before ts
    → slice_get before k ≡ Some first → slice_get ts j ≡ Some last → is_past first last ≡ true
later n j k before [] first last e s f l = absurd (none-some last l)
later n zero k before (t ∷ ts) first last e s f l =
    let same : n ≡ k = omega arith in
    let found : slice_get before n ≡ Some first = ap (slice_get before) same ∙ f in
    subst (λ (x : ℕ). is_past first x ≡ true) (same_Some t last l)
    (subst (λ (o : Option ℕ). is_past_or_none o t ≡ true) found s.0)
later n (suc j) k before (t ∷ ts) first last e s f l =
    let next : j + suc k ≡ n = omega arith in later n j (suc k) (t ∷ before) ts first last next s.1 f l

apart : (n i : ℕ) (before times : List ℕ) (first last : ℕ) → SpacedBy n before times → slice_get times i ≡ Some first
    → slice_get times (i + suc n) ≡ Some last → is_past first last ≡ true
apart n i before [] first last s f l = absurd (none-some first f)
apart n zero before (t ∷ ts) first last s f l =
    let same : zero + suc n ≡ suc n = omega arith in
    let here : slice_get ts n ≡ Some last = subst (λ (x : ℕ). slice_get (t ∷ ts) x ≡ Some last) same l in
    let at : n + zero ≡ n = omega arith in
    later n n zero (t ∷ before) ts first last at s.1 f here
apart n (suc i) before (t ∷ ts) first last s f l =
    let same : suc i + suc n ≡ suc (i + suc n) = omega arith in
    let here : slice_get ts (i + suc n) ≡ Some last =
    subst (λ (x : ℕ). slice_get (t ∷ ts) x ≡ Some last) same l in
    apart n i (t ∷ before) ts first last s.1 f here

past_apart : (first last : ℕ) → is_past first last ≡ true → (first + SECOND ≤ last) ⊎ (last < first)
past_apart first last h = by (nat_lt last first) refl h
  where
    by : (b : Bool) → nat_lt last first ≡ b → (b || nat_le SECOND (last - first)) ≡ true
        → (first + SECOND ≤ last) ⊎ (last < first)
    by true e k = inr (ltb-true last first e)
    by false e k =
        let after : first ≤ last = ltb-false last first e in
        let long : SECOND ≤ last - first = leb-true SECOND (last - first) k in
        let sum : first + SECOND ≤ last = omega arith in inl sum

-- ---- one that came

-- the time of what came, if that goes on to the controller by the route
abbrev pub time_to_controller : ℕ → Answer → Option Going → List ℕ
time_to_controller route (comes now at from bytes) (Some g) =
    cond (is_controller g.way.out.side && (g.way.out.route == route)) (now ∷ []) []
time_to_controller route _ _ = []

-- when something went on to the controller by the route, in order, each given those before it
abbrev pub times_to_controller : Relay → ℕ → List (List ℕ) → List Answer → List ℕ
times_to_controller r route meters [] = []
times_to_controller r route meters (a ∷ more) = time_to_controller route a (goes_on r meters a)
    ++ times_to_controller r route (times_then r meters a) more

-- the times that are kept are the last ones
abbrev Tracks : Relay → ℕ → List (List ℕ) → List ℕ → Type 0
Tracks r k meters before = (length meters ≡ length r.routes.now) × (times_of meters k ≡ take RATE before)

-- nothing goes on to the controller by the route, or something does that has room
abbrev Steps : Relay → ℕ → List ℕ → List ℕ → List (List ℕ) → Type 0
Steps r k before times meters =
    ((times ≡ []) × Tracks r k meters before)
    ⊎ ((now : ℕ) × (times ≡ now ∷ []) × (is_past_or_none (slice_get before (RATE - 1)) now ≡ true)
    × Tracks r k meters (now ∷ before))

room_of : (r : Relay) (k : ℕ) (meters : List (List ℕ)) (before : List ℕ) (now : ℕ) → Tracks r k meters before
    → has_room (times_of meters k) now ≡ true
    → is_past_or_none (slice_get before (RATE - 1)) now ≡ true
room_of r k meters before now t h =
    let less : RATE - 1 < RATE = omega arith in
    let same : slice_get (times_of meters k) (RATE - 1) ≡ slice_get before (RATE - 1) =
    ap (λ (xs : List ℕ). slice_get xs (RATE - 1)) t.1 ∙ get_taken RATE (RATE - 1) before less in
    subst (λ (o : Option ℕ). is_past_or_none o now ≡ true) same h

-- the times of a device of whose route something went on
noted : (r : Relay) (k : ℕ) (meters : List (List ℕ)) (before : List ℕ) (now : ℕ) → k < length meters
    → Tracks r k meters before
    → Tracks r k (slice_set meters k (times_after (times_of meters k) now)) (now ∷ before)
noted r k meters before now h t = (
  length-set meters k (times_after (times_of meters k) now) ∙ t.0,
  set_same meters k (times_after (times_of meters k) now) h
      ∙ (ap (λ (xs : List ℕ). take RATE (now ∷ xs)) t.1 ∙ take_again RATE now before),
)

set_tracks : (r : Relay) (j k : ℕ) (meters : List (List ℕ)) (before times : List ℕ)
    → times_of (slice_set meters j times) k ≡ times_of meters k → Tracks r k meters before
    → Tracks r k (slice_set meters j times) before
set_tracks r j k meters before times e t = (length-set meters j times ∙ t.0, e ∙ t.1)

-- what would go on from a device, by whether there is room
from_device : (r : Relay) (j k : ℕ) (meters : List (List ℕ)) (before : List ℕ) (now : ℕ) (room : Bool)
    → j < length meters → Tracks r k meters before → has_room (times_of meters j) now ≡ room
    → Steps r k before (cond room (cond (j == k) (now ∷ []) []) [])
    (slice_set meters j (cond room (times_after (times_of meters j) now) (times_of meters j)))
from_device r j k meters before now false less t e =
    inl (refl, set_tracks r j k meters before (times_of meters j) (set_self meters j k) t)
from_device r j k meters before now true less t e = by (j == k) refl
  where
    by : (b : Bool) → (j == k) ≡ b
        → Steps r k before (cond b (now ∷ []) []) (slice_set meters j (times_after (times_of meters j) now))
    by true same =
        let is : j ≡ k = eqb-true j k same in
        let here : has_room (times_of meters k) now ≡ true =
        subst (λ (x : ℕ). has_room (times_of meters x) now ≡ true) is e in
        let within : k < length meters = omega arith in
        let after = subst (λ (x : ℕ). Tracks r k (slice_set meters x (times_after (times_of meters x) now))
        (now ∷ before)) (sym is) (noted r k meters before now within t) in
        inr (now, refl, room_of r k meters before now t here, after)
    by false other =
        let differs : j ≢ k = eqb-false j k other in
        inl (
          refl,
          set_tracks r j k meters before (times_after (times_of meters j) now)
              (set_other meters j k (times_after (times_of meters j) now) differs) t,
        )

-- the times of what goes on by this way
time_at : (k now : ℕ) (at : Opening) (from : Address) (bytes : List ℕ) (g : Going) (side : Side) (route : ℕ)
    → g.way.out.side ≡ side → g.way.out.route ≡ route
    → time_to_controller k (comes now at from bytes) (Some g)
    ≡ cond (is_controller side && (route == k)) (now ∷ []) []
time_at k now at from bytes g side route e f =
    ap (λ (s : Side). cond (is_controller s && (g.way.out.route == k)) (now ∷ []) []) e
    ∙ ap (λ (x : ℕ). cond (is_controller side && (x == k)) (now ∷ []) []) f

-- a choice, asked for its time
time_chosen : (k now : ℕ) (at : Opening) (from : Address) (bytes : List ℕ) (b : Bool) (g : Going) (ts : List ℕ)
    → time_to_controller k (comes now at from bytes) (Some g) ≡ ts
    → time_to_controller k (comes now at from bytes) (cond b (Some g) None) ≡ cond b ts []
time_chosen k now at from bytes true g ts e = e
time_chosen k now at from bytes false g ts e = refl

step_going : (r : Relay) (k : ℕ) (meters : List (List ℕ)) (before : List ℕ) (now : ℕ) (at : Opening) (from : Address)
    (bytes : List ℕ) (g : Going) (side : Side)
    → at.side ≡ side → Goes r at from bytes g → Tracks r k meters before
    → Steps r k before
    (time_to_controller k (comes now at from bytes) (cond (admits_at side meters at.route now) (Some g) None))
    (meters_at side meters at.route now)
step_going r k meters before now at from bytes g Controller e w t =
    inl (time_at k now at from bytes g Stage at.route (w.side ∙ ap across e) w.out, t)
step_going r k meters before now at from bytes g Stage e w t =
    let less : at.route < length r.routes.now = some_within r.routes.now at.route w.route w.found in
    let within : at.route < length meters = omega arith in
    let times = time_chosen k now at from bytes (has_room (times_of meters at.route) now) g
    (cond (at.route == k) (now ∷ []) [])
    (time_at k now at from bytes g Controller at.route (w.side ∙ ap across e) w.out) in
    subst (λ (ts : List ℕ). Steps r k before ts (meters_at Stage meters at.route now)) (sym times)
    (from_device r at.route k meters before now (has_room (times_of meters at.route) now) within t refl)

no_time : (k now : ℕ) (at : Opening) (from : Address) (bytes : List ℕ) (b : Bool)
    → time_to_controller k (comes now at from bytes) (cond b None None) ≡ []
no_time k now at from bytes true = refl
no_time k now at from bytes false = refl

step_by : (r : Relay) (k : ℕ) (meters : List (List ℕ)) (before : List ℕ) (now : ℕ) (at : Opening) (from : Address)
    (bytes : List ℕ) (o : Option Going)
    → way_and_message r at from bytes ≡ o → Tracks r k meters before
    → Steps r k before (time_to_controller k (comes now at from bytes) (cond (admits meters at now) o None))
    (cond (is_some o) (meters_after meters at now) meters)
step_by r k meters before now at from bytes None e t = inl (no_time k now at from bytes (admits meters at now), t)
step_by r k meters before now at from bytes (Some g) e t =
    step_going r k meters before now at from bytes g at.side refl (goes r at from bytes g e) t

step : (r : Relay) (k : ℕ) (meters : List (List ℕ)) (before : List ℕ) (a : Answer) → Tracks r k meters before
    → Steps r k before (time_to_controller k a (goes_on r meters a)) (times_then r meters a)
step r k meters before (comes now at from bytes) t =
    step_by r k meters before now at from bytes (way_and_message r at from bytes) refl t
step r k meters before (ticks now) t = inl (refl, t)

-- ---- all of them

spaced : (r : Relay) (k : ℕ) (given : List Answer) (meters : List (List ℕ)) (before : List ℕ)
    → Tracks r k meters before → SpacedBy (RATE - 1) before (times_to_controller r k meters given)
spaced r k [] meters before t = tt
spaced r k (a ∷ more) meters before t =
    let rest : List ℕ = times_to_controller r k (times_then r meters a) more in
    elim (step r k meters before a t) [
      | inl s ↦ subst (λ (ts : List ℕ). SpacedBy (RATE - 1) before (ts ++ rest)) (sym s.0)
          (spaced r k more (times_then r meters a) before s.1)
      | inr s ↦ subst (λ (ts : List ℕ). SpacedBy (RATE - 1) before (ts ++ rest)) (sym s.1)
          (s.2, spaced r k more (times_then r meters a) (s.0 ∷ before) s.3)
    ]

pub at-a-rate : (r : Relay) (given : List Answer) (route : ℕ)
    → AtMostAHundred (times_to_controller r route (no_times r.routes.now) given)
at-a-rate r given route i first last f l =
    past_apart first last (apart (RATE - 1) i [] (times_to_controller r route (no_times r.routes.now) given) first last
    (spaced r route given (no_times r.routes.now) []
    (length-replicate (length r.routes.now) [], none_yet (length r.routes.now) route)) f l)
