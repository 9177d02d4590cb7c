-- What a device hears was delivered to it.
use Rattle.std.proofs.Common.{◌≡◌, ℕ, zero, suc, ◌<◌, Bool, true, false, cond, List, [], ◌∷◌, ◌||◌, length, Option}
use Rattle.std.proofs.Common.{Some, None, nat_eq, refl, sym, subst, true≢false, IsTrue, arith, get_or}
use Rattle.std.specs.List.{AllByRecursion, Contains}
use Rattle.std.proofs.lemmas.Bool.{eqb-true}
use Rattle.cue_show.specs.DeviceNumber.{is_device}
use Rattle.cue_device.specs.declared.asked.Command.{Command}
use Rattle.cue_device.specs.declared.asked.Command.TheVariants.{Go}
use Rattle.cue_device.specs.declared.hearing.Device.{Device}
use Rattle.cue_device.specs.declared.words.Order.{Order}
use Rattle.cue_device.specs.declared.words.Order.TheVariants.{Prepare, Move, GiveUp}
use Rattle.cue_device.specs.Hearing.{device_at_rest}
use Rattle.cue_device.specs.Histories.{hears, latest, device_after, order_at, orders_of}
use Rattle.cue_device.specs.Histories as device
use Rattle.cue_device.specs.Laws.{has_moved}
use Rattle.cue_stage.specs.Stage.{Beginning, Happening, meets, befalls, Happens, MayBefall, MayBeDelivered, handed_by}
use Rattle.cue_stage.specs.Stage.{life_of, orders_by}
use Rattle.cue_stage.specs.Laws.{WasToMove}
use Rattle.cue_stage.proofs.LifeLemmas.{still_handed}
use Rattle.cue_stage.proofs.MoveLemmas.{moves_by_go}

-- what holds of each holds of one of them
pub each_has : {X : Type 0} (P : X → Type 0) (xs : List X) (x : X) → AllByRecursion P xs → Contains xs x → P x
each_has P [] x h c = let lt : c.0 < 0 = c.1 in absurd (omega arith)
each_has P (y ∷ ys) x h c = by (λ later. each_has P ys x h.1 later) c.0 c.1 c.2
  where
    by : (Contains ys x → P x) → (k : ℕ) → k < suc (length ys) → get_or (y ∷ ys) k x ≡ x → P x
    by f zero lt e = subst P e h.0
    by f (suc k) lt e = let below : k < length ys = omega arith in f (k, below, e)

-- ---- commands that were delivered

-- the command was delivered to the device d
pub record WasTold (from : Beginning) (past : List Happening) (d : ℕ) (c : Command) : Type 0 where
  pub number : IsTrue (is_device d)
  pub delivered : MayBeDelivered (handed_by from past) d c

told_still : (from : Beginning) (h : Happening) (past : List Happening) (d : ℕ) (c : Command) → WasTold from past d c
    → WasTold from (h ∷ past) d c
told_still from h past d c told = record {
  number = told.number;
  delivered = record {
    datagram = told.delivered.datagram;
    was_handed = still_handed from h past told.delivered.datagram told.delivered.was_handed;
    is_command = told.delivered.is_command;
  };
}

-- what it hears was delivered to it
heard_now : (from : Beginning) (past : List Happening) (d : ℕ) (c : Command) (what : device.Happening)
    → MayBefall from past d what → what ≡ hears c → WasTold from past d c
heard_now from past d c what may e = let now : MayBefall from past d (hears c) = subst (MayBefall from past d) e may in
    record { number = now.0; delivered = now.1 }

abbrev Earlier : Beginning → List Happening → ℕ → ℕ → Type 0
Earlier from past d q = WasToMove from past d q → WasTold from past d (Go q)

-- the device d by now
abbrev device_now : Beginning → List Happening → ℕ → Device
device_now from past d = device_after (device_at_rest d (from.over d)) (life_of d past)

pub was_told_to_go : (from : Beginning) (past : List Happening) (d q : ℕ) → Happens from past → WasToMove from past d q
    → WasTold from past d (Go q)
was_told_to_go from [] d q h m = absurd (true≢false (sym m))
was_told_to_go from (meets i ∷ past) d q h m =
    told_still from (meets i) past d (Go q) (was_told_to_go from past d q h.1 m)
was_told_to_go from (befalls e what ∷ past) d q h m =
    told_still from (befalls e what) past d (Go q) (by (λ k. was_told_to_go from past d q h.1 k) (nat_eq e d) refl m)
  where
    may : nat_eq e d ≡ true → MayBefall from past d what
    may same = subst (λ (n : ℕ). MayBefall from past n what) (eqb-true e d same) h.0

    one : (p : ℕ) → Earlier from past d q → (b : Bool) → nat_eq p q ≡ b → nat_eq e d ≡ true
        → order_at what (device_now from past d) ≡ Some (Move p) → (b || has_moved q (orders_by from past d)) ≡ true
        → WasTold from past d (Go q)
    one p f true is same at k =
        heard_now from past d (Go q) what (may same)
        (subst (λ (n : ℕ). what ≡ hears (Go n)) (eqb-true p q is) (moves_by_go what (device_now from past d) p at))
    one p f false is same at k = f k

    ordered : Earlier from past d q → (o : Option Order) → nat_eq e d ≡ true
        → order_at what (device_now from past d) ≡ o → has_moved q (latest o (orders_by from past d)) ≡ true
        → WasTold from past d (Go q)
    ordered f None same at k = f k
    ordered f (Some (Prepare p)) same at k = f k
    ordered f (Some (Move p)) same at k = one p f (nat_eq p q) refl same at k
    ordered f (Some (GiveUp p)) same at k = f k

    by : Earlier from past d q → (b : Bool) → nat_eq e d ≡ b
        → has_moved q (orders_of (device_at_rest d (from.over d)) (cond b (what ∷ life_of d past) (life_of d past)))
        ≡ true
        → WasTold from past d (Go q)
    by f true same k = ordered f (order_at what (device_now from past d)) same refl k
    by f false same k = f k

-- a command that it heard was delivered to it
pub was_told : (from : Beginning) (past : List Happening) (d : ℕ) (c : Command) → Happens from past
    → Contains (life_of d past) (hears c) → WasTold from past d c
was_told from [] d c h m = let lt : m.0 < 0 = m.1 in absurd (omega arith)
was_told from (meets i ∷ past) d c h m = told_still from (meets i) past d c (was_told from past d c h.1 m)
was_told from (befalls e what ∷ past) d c h m =
    told_still from (befalls e what) past d c (by (λ k. was_told from past d c h.1 k) (nat_eq e d) refl m)
  where
    among : (Contains (life_of d past) (hears c) → WasTold from past d c) → nat_eq e d ≡ true → (k : ℕ)
        → k < suc (length (life_of d past)) → get_or (what ∷ life_of d past) k (hears c) ≡ hears c
        → WasTold from past d c
    among f same zero lt is =
        heard_now from past d c what (subst (λ (n : ℕ). MayBefall from past n what) (eqb-true e d same) h.0) is
    among f same (suc k) lt is = let below : k < length (life_of d past) = omega arith in f (k, below, is)

    by : (Contains (life_of d past) (hears c) → WasTold from past d c) → (b : Bool) → nat_eq e d ≡ b
        → Contains (cond b (what ∷ life_of d past) (life_of d past)) (hears c) → WasTold from past d c
    by f true same k = among f same k.0 k.1 k.2
    by f false same k = f k
