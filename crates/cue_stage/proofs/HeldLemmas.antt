-- The task of a device's attempt came with a STANDBY of the attempt, and without one its machine is ordered nothing.
use Rattle.std.proofs.Common.{◌≡◌, ℕ, Bool, true, false, cond, List, [], ◌∷◌, Option, Some, None, is_none, refl}
use Rattle.std.proofs.Common.{subst, arith, is_some, if◌then◌else◌}
use Rattle.std.specs.List.{Contains}
use Rattle.cue_device.specs.declared.asked.Command.{Command}
use Rattle.cue_device.specs.declared.asked.Command.TheVariants.{Standby, Go, Cancel}
use Rattle.cue_device.specs.declared.asked.Task.{Task}
use Rattle.cue_device.specs.declared.hearing.Device.{Device}
use Rattle.cue_device.specs.declared.hearing.Place.{Place}
use Rattle.cue_device.specs.declared.hearing.Place.TheVariants.{Over, Same, New}
use Rattle.cue_device.specs.declared.hearing.Told.{Told}
use Rattle.cue_device.specs.declared.hearing.Told.TheVariants.{Prepared, Moved, GaveUp, Cannot}
use Rattle.cue_device.specs.declared.phase.Attempt.{Attempt}
use Rattle.cue_device.specs.declared.phase.Cell.{Cell}
use Rattle.cue_device.specs.declared.phase.Phase.{Phase}
use Rattle.cue_device.specs.declared.phase.Phase.TheVariants.{Preparing, Ready, Moving, Done, LetGo, Failed}
use Rattle.cue_device.specs.declared.words.Order.{Order}
use Rattle.cue_device.specs.Hearing.{after_at, after_cell, after_report, again}
use Rattle.cue_device.specs.Hearing.{device_at_rest, is_for, ordered_for, place, seq_of, task_of, told_at}
use Rattle.cue_device.specs.Hearing.{told_in, told_of, unheard_after}
use Rattle.cue_device.specs.Histories.{Happening, hears, tells, repeats, hears_reply, restarts, device_after}
use Rattle.cue_device.specs.Table.{new_number, other_standby, same_cancel, same_go, same_standby}
use Rattle.cue_engine.proofs.AskedLemmas.{further}
use Rattle.cue_stage.proofs.PreparedLemmas.{place_same}

-- ---- cells of the table

-- the machine is ordered nothing in this phase
abbrev pub IsIdle : Phase → Type 0
IsIdle LetGo = Unit {0}
IsIdle Failed = Unit {0}
IsIdle _ = ⊥

-- an order comes for this number, and in no idle phase
abbrev pub OrdersFor : ℕ → Phase → Option Order → Type 0
OrdersFor n p None = Unit {0}
OrdersFor n p (Some o) = (ordered_for o ≡ n) × (IsIdle p → ⊥)

-- and what is idle stays so
abbrev Fits : ℕ → Phase → Cell → Type 0
Fits n p cell = OrdersFor n p cell.order × (IsIdle p → IsIdle cell.phase)

same_standby-fits : (n : ℕ) (p : Phase) → Fits n p (same_standby n p)
same_standby-fits n Preparing = (tt, λ i. i)
same_standby-fits n _ = (tt, λ i. i)

other_standby-fits : (n : ℕ) (p : Phase) → Fits n p (other_standby n p)
other_standby-fits n Preparing = ((refl, λ i. i), λ i. tt)
other_standby-fits n Ready = ((refl, λ i. i), λ i. tt)
other_standby-fits n _ = (tt, λ i. tt)

same_go-fits : (n : ℕ) (p : Phase) → Fits n p (same_go n p)
same_go-fits n Ready = ((refl, λ i. i), λ i. i)
same_go-fits n Moving = (tt, λ i. i)
same_go-fits n Done = (tt, λ i. i)
same_go-fits n _ = (tt, λ i. tt)

same_cancel-fits : (n : ℕ) (p : Phase) → Fits n p (same_cancel n p)
same_cancel-fits n Preparing = ((refl, λ i. i), λ i. i)
same_cancel-fits n Ready = ((refl, λ i. i), λ i. i)
same_cancel-fits n _ = (tt, λ i. i)

standby_fits : (n : ℕ) (p : Phase) (same : Bool) → Fits n p (cond same (same_standby n p) (other_standby n p))
standby_fits n p true = same_standby-fits n p
standby_fits n p false = other_standby-fits n p

pub again_fits : (a : Attempt) (c : Command) → Fits (seq_of c) a.phase (again a c)
again_fits a (Standby n t) = standby_fits n a.phase (is_for t a.task)
again_fits a (Go n) = same_go-fits n a.phase
again_fits a (Cancel n) = same_cancel-fits n a.phase

-- what is reported of an idle attempt leaves it idle
told_idle : (t : Told) (p : Phase) → IsIdle p → IsIdle (told_in t p).phase
told_idle (Prepared n) LetGo i = tt
told_idle (Prepared n) Failed i = tt
told_idle (Moved n) LetGo i = tt
told_idle (Moved n) Failed i = tt
told_idle (GaveUp n) LetGo i = tt
told_idle (GaveUp n) Failed i = tt
told_idle (Cannot n) LetGo i = tt
told_idle (Cannot n) Failed i = tt
told_idle _ _ i = absurd i

-- ---- where the task of an attempt came from

-- it came with a STANDBY of the number; an attempt without one is idle
abbrev pub CameFor : List Happening → ℕ → Phase → Option Task → Type 0
CameFor hs n p None = IsIdle p
CameFor hs n p (Some t) = Contains hs (hears (Standby n t))

abbrev pub Came : List Happening → ℕ → Option Attempt → Type 0
Came hs n None = Unit {0}
Came hs n (Some a) = CameFor hs n a.phase a.task

came_later : (h : Happening) (hs : List Happening) (n : ℕ) (p r : Phase) (t : Option Task) → (IsIdle p → IsIdle r)
    → CameFor hs n p t → CameFor (h ∷ hs) n r t
came_later h hs n p r None idle came = idle came
came_later h hs n p r (Some t) idle came = further h (hears (Standby n t)) hs came

came_still : (h : Happening) (hs : List Happening) (n : ℕ) (o : Option Attempt) → Came hs n o → Came (h ∷ hs) n o
came_still h hs n None came = tt
came_still h hs n (Some a) came = came_later h hs n a.phase a.phase a.task (λ i. i) came

-- the device holds what came
abbrev pub Holds : List Happening → Device → Type 0
Holds hs d = Came hs d.last d.attempt

new_holds : (free : Bool) (hs : List Happening) (c : Command)
    → CameFor (hears c ∷ hs) (seq_of c) (new_number free c).phase (task_of c)
new_holds free hs (Standby n t) = (0, omega arith, refl)
new_holds free hs (Go n) = tt
new_holds free hs (Cancel n) = tt

heard_holds : (hs : List Happening) (d : Device) (c : Command) (p : Place) → place d (seq_of c) ≡ p → Holds hs d
    → Holds (hears c ∷ hs) (after_at p c d)
heard_holds hs d c Over is holds = came_still (hears c) hs d.last d.attempt holds
heard_holds hs d c (Same a) is holds =
    let here : Came hs d.last (Some a) = subst (Came hs d.last) (place_same d (seq_of c) a is).1 holds in
    came_later (hears c) hs d.last a.phase (again a c).phase a.task (again_fits a c).1 here
heard_holds hs d c New is holds = new_holds (is_none d.doing) hs c

told_holds : (hs : List Happening) (d : Device) (t : Told) (p : Place) → place d (told_of t) ≡ p → Holds hs d
    → Holds (tells t ∷ hs) (told_at p t d)
told_holds hs d t Over is holds = came_still (tells t) hs d.last d.attempt holds
told_holds hs d t (Same a) is holds = by (is_some (told_in t a.phase).answer)
  where
    here : Came hs d.last (Some a)
    here = subst (Came hs d.last) (place_same d (told_of t) a is).1 holds

    by : (b : Bool) → Holds (tells t ∷ hs) (if b then record (after_cell a.task (told_in t a.phase) (after_report t d))
        { unheard = unheard_after t d.unheard } else after_report t d)
    by true = came_later (tells t) hs d.last a.phase (told_in t a.phase).phase a.task (told_idle t a.phase) here
    by false = came_still (tells t) hs d.last d.attempt holds
told_holds hs d t New is holds = came_still (tells t) hs d.last d.attempt holds

pub device_holds : (d over : ℕ) (hs : List Happening) → Holds hs (device_after (device_at_rest d over) hs)
device_holds d over [] = tt
device_holds d over (hears c ∷ hs) =
    let now : Device = device_after (device_at_rest d over) hs in
    heard_holds hs now c (place now (seq_of c)) refl (device_holds d over hs)
device_holds d over (tells t ∷ hs) =
    let now : Device = device_after (device_at_rest d over) hs in
    told_holds hs now t (place now (told_of t)) refl (device_holds d over hs)
device_holds d over (repeats ∷ hs) =
    let now : Device = device_after (device_at_rest d over) hs in
    came_still repeats hs now.last now.attempt (device_holds d over hs)
device_holds d over (hears_reply ∷ hs) =
    let now : Device = device_after (device_at_rest d over) hs in
    came_still hears_reply hs now.last now.attempt (device_holds d over hs)
device_holds d over (restarts n ∷ hs) = tt
