-- Which devices a plan relays.
use Rattle.std.proofs.Common.{◌≡◌, ◌∙◌, refl, sym, ap, subst, arith, ℕ, zero, suc, ◌<◌, Bool, true, false, List}
use Rattle.std.proofs.Common.{[], ◌∷◌}
use Rattle.std.proofs.Common.{length, get_or, Option, None, Some}
use Rattle.std.specs.Prelude.{◌&&◌, not, if◌then◌else◌}
use Rattle.std.specs.List.{Contains, cons_option, filter_map}
use Rattle.std.specs.Option.{option_map}
use Rattle.std.proofs.lemmas.List.Elements.{Contains-append_right}
use Rattle.std.proofs.lemmas.Option.{none-some, same_Some}
use Rattle.cue_relay.specs.declared.route.Address.{Address}
use Rattle.cue_relay.specs.declared.route.Route.{Route}
use Rattle.cue_show_file.specs.Routes.{route_of}
use Rattle.cue_show_file.specs.declared.file.ShowFile.{ShowFile}
use Rattle.cue_relay_words.specs.Laws.{EachHasItsPort, EachIsRelayed, IsOf, NothingElse, are_apart}
use Rattle.cue_relay_words.specs.declared.planning.Lack.TheVariants as lack
use Rattle.cue_relay_words.specs.Planning.{has_port, lack_by, lack_of, routes_in, shared_port}

-- ---- what passes a filter

-- the first of a list is one of it
Contains-head : {X : Type 0} (x : X) (xs : List X) → Contains (x ∷ xs) x
Contains-head x xs = (0, omega arith, refl)

-- what is made of one of a list is among what is made of all
in-filter : {X Y : Type 0} (h : X → Option Y) (xs : List X) (x : X) (y : Y) (k : ℕ) → k < length xs
    → get_or xs k x ≡ x → h x ≡ Some y → Contains (filter_map h xs) y
in-filter h [] x y k within is e = absurd (omega arith)
in-filter h (z ∷ zs) x y zero within is e =
    let made : h z ≡ Some y = ap h is ∙ e in
    subst (λ o. Contains (cons_option o (filter_map h zs)) y) (sym made) (Contains-head y (filter_map h zs))
in-filter {Y = B} h (z ∷ zs) x y (suc k) within is e =
    by (h z) (in-filter h zs x y k (omega arith) is e)
  where
    by : (o : Option B) → Contains (filter_map h zs) y → Contains (cons_option o (filter_map h zs)) y
    by None c = c
    by (Some w) c = Contains-append_right (w ∷ []) (filter_map h zs) y c

-- what is among all that is made of a list is made of one of it
record MadeOf {X Y : Type 0} (h : X → Option Y) (xs : List X) (y : Y) : Type 0 where
  one : X
  is_one : Contains xs one
  made : h one ≡ Some y

made-later : {X Y : Type 0} (h : X → Option Y) (z : X) (zs : List X) (y : Y) → MadeOf h zs y → MadeOf h (z ∷ zs) y
made-later h z zs y m =
    record { one = m.one; is_one = Contains-append_right (z ∷ []) zs m.one m.is_one; made = m.made }

made-by : {X Y : Type 0} (h : X → Option Y) (z : X) (zs : List X) (y : Y) (o : Option Y) (k : ℕ) → h z ≡ o
    → ((j : ℕ) → j < length (filter_map h zs) → get_or (filter_map h zs) j y ≡ y → MadeOf h zs y)
    → k < length (cons_option o (filter_map h zs)) → get_or (cons_option o (filter_map h zs)) k y ≡ y
    → MadeOf h (z ∷ zs) y
made-by h z zs y None k e past within is = made-later h z zs y (past k within is)
made-by h z zs y (Some w) zero e past within is =
    record { one = z; is_one = Contains-head z zs; made = e ∙ ap Some is }
made-by h z zs y (Some w) (suc k) e past within is = made-later h z zs y (past k (omega arith) is)

out-filter : {X Y : Type 0} (h : X → Option Y) (xs : List X) (y : Y) (k : ℕ) → k < length (filter_map h xs)
    → get_or (filter_map h xs) k y ≡ y → MadeOf h xs y
out-filter h [] y k within is = absurd (omega arith)
out-filter h (z ∷ zs) y k within is = made-by h z zs y (h z) k refl (out-filter h zs y) within is

-- ---- the routes of a file

pub each-is-relayed : EachIsRelayed
each-is-relayed file device address is_device e =
    let r : Address → Route = λ a. record { device = device.number; port = device.port; address = a } in
    in-filter route_of file.devices.items device (r address) is_device.0 is_device.1 is_device.2
    (ap (option_map r) e)

is-of : (file : ShowFile) (route : Route) (m : MadeOf route_of file.devices.items route) (o : Option Address)
    → m.one.address ≡ o
    → option_map (λ (a : Address).
    let r : Route = record { device = m.one.number; port = m.one.port; address = a } in r) o
    ≡ Some route
    → IsOf file route
is-of file route m None e h = absurd (none-some route h)
is-of file route m (Some address) e h =
    let r : Route = record { device = m.one.number; port = m.one.port; address = address } in
    let same : r ≡ route = same_Some r route h in
    record {
      device = m.one;
      is_device = m.is_one;
      number = ap (λ (x : Route). x.device) same;
      port = ap (λ (x : Route). x.port) same;
      address = e ∙ ap (λ (x : Route). Some x.address) same;
    }

pub nothing-else : NothingElse
nothing-else file route is_route =
    let m : MadeOf route_of file.devices.items route =
    out-filter route_of file.devices.items route is_route.0 is_route.1 is_route.2 in
    is-of file route m m.one.address refl m.made

-- ---- ports

apart : (routes : List Route) → shared_port routes ≡ None → are_apart routes ≡ true
apart [] none = refl
apart (r ∷ later) none = by (has_port r.port later) (apart later) none
  where
    by : (t : Bool) → (shared_port later ≡ None → are_apart later ≡ true)
        → (if t then Some r.port else shared_port later) ≡ None → (not t && are_apart later) ≡ true
    by true past h = absurd (none-some r.port (sym h))
    by false past h = past h

no-shared : (routes : List Route) (listen : Option ℕ) → lack_of routes listen ≡ None → shared_port routes ≡ None
no-shared [] listen none = refl
no-shared (r ∷ routes) listen none = by (shared_port (r ∷ routes)) listen none
  where
    by : (shared listen : Option ℕ) → lack_by shared listen ≡ None → shared ≡ None
    by None listen h = refl
    by (Some port) listen h = absurd (none-some (lack.SharedPort port) (sym h))

pub each-has-its-port : EachHasItsPort
each-has-its-port file none = apart (routes_in file) (no-shared (routes_in file) file.listen none)
