-- The store and each device of a stage live as their own laws ask.
use Rattle.std.proofs.Common.{◌≡◌, ℕ, Bool, true, false, cond, List, [], ◌∷◌, ◌++◌, nat_eq, refl, sym, ap, ◌∙◌, subst}
use Rattle.std.proofs.Common.{append_assoc}
use Rattle.std.specs.List.{Contains}
use Rattle.std.proofs.lemmas.List.{map-append}
use Rattle.std.proofs.lemmas.List.Elements.{Contains-append_left}
use Rattle.std.proofs.lemmas.Bool.{eqb-true}
use Rattle.cue_core.specs.State.{empty_state}
use Rattle.cue_outbox.specs.Sending.{Send, datagram, datagrams}
use Rattle.cue_engine.specs.Incidents.{Incident, Store, Permits, left_by, left_by_all}
use Rattle.cue_engine.specs.Incidents as engine
use Rattle.cue_engine.specs.Headline.{BeginsWith, all_handed, handed_in}
use Rattle.cue_device.specs.Hearing.{device_at_rest}
use Rattle.cue_device.specs.Histories.{hears, tells, repeats, hears_reply, restarts, KeepsNumber, KeepsNumbers}
use Rattle.cue_device.specs.Histories.{orders_of}
use Rattle.cue_device.specs.Histories as device
use Rattle.cue_stage.specs.Stage.{Beginning, Happening, meets, befalls, Happens, MayBefall, handed_by, incidents}
use Rattle.cue_stage.specs.Stage.{life_of, orders_by, store_after}

-- ---- the store

happens_more : (store : Store) (is : List Incident) (i : Incident) → engine.Happens store is
    → Permits (left_by_all store is) i → engine.Happens store (is ++ i ∷ [])
happens_more store [] i h ok = (ok, tt)
happens_more store (j ∷ is) i h ok = (h.0, happens_more (left_by store j) is i h.1 ok)

pub begins : (from : Beginning) (past : List Happening) → Happens from past → BeginsWith from.store empty_state
begins from [] h = h
begins from (x ∷ past) h = begins from past h.1

pub store_happens : (from : Beginning) (past : List Happening) → Happens from past
    → engine.Happens from.store (incidents past)
store_happens from [] h = tt
store_happens from (meets i ∷ past) h = happens_more from.store (incidents past) i (store_happens from past h.1) h.0
store_happens from (befalls d what ∷ past) h = store_happens from past h.1

-- ---- what was handed over stays

handed_more : (store : Store) (is : List Incident) (i : Incident)
    → all_handed store (is ++ i ∷ []) ≡ all_handed store is ++ (handed_in (left_by_all store is) i ++ [])
handed_more store [] i = refl
handed_more store (j ∷ is) i =
    ap (λ (ms : List (ℕ × Send)). handed_in store j ++ ms) (handed_more (left_by store j) is i)
    ∙ sym (append_assoc (handed_in store j) (all_handed (left_by store j) is)
    (handed_in (left_by_all (left_by store j) is) i ++ []))

pub still_handed : (from : Beginning) (h : Happening) (past : List Happening) (m : ℕ × List ℕ)
    → Contains (handed_by from past) m → Contains (handed_by from (h ∷ past)) m
still_handed from (meets i) past m c =
    let before : List (ℕ × Send) = all_handed from.store (incidents past) in
    let now : List (ℕ × Send) = handed_in (store_after from past) i ++ [] in
    let split : datagrams before ++ datagrams now ≡ handed_by from (meets i ∷ past) =
    sym (map-append datagram before now) ∙ ap datagrams (sym (handed_more from.store (incidents past) i)) in
    subst (λ (ms : List (ℕ × List ℕ)). Contains ms m) split
    (Contains-append_left (datagrams before) (datagrams now) m c)
still_handed from (befalls d what) past m c = c

-- ---- each device

keeps : (from : Beginning) (past : List Happening) (d : ℕ) (what : device.Happening) → MayBefall from past d what
    → KeepsNumber what (orders_by from past d)
keeps from past d (hears c) h = tt
keeps from past d (tells t) h = h
keeps from past d repeats h = h
keeps from past d hears_reply h = h
keeps from past d (restarts n) h = h

pub keeps_numbers : (from : Beginning) (past : List Happening) (d : ℕ) → Happens from past
    → KeepsNumbers (device_at_rest d (from.over d)) (life_of d past)
keeps_numbers from [] d h = tt
keeps_numbers from (meets i ∷ past) d h = keeps_numbers from past d h.1
keeps_numbers from (befalls e what ∷ past) d h = by (nat_eq e d) refl (keeps_numbers from past d h.1)
  where
    by : (b : Bool) → nat_eq e d ≡ b → KeepsNumbers (device_at_rest d (from.over d)) (life_of d past)
        → KeepsNumbers (device_at_rest d (from.over d)) (cond b (what ∷ life_of d past) (life_of d past))
    by true same earlier = (
      subst (λ (n : ℕ). KeepsNumber what (orders_by from past n)) (eqb-true e d same)
          (keeps from past e what h.0),
      earlier,
    )
    by false same earlier = earlier
