-- What a device carries out it does not abort.
use Rattle.std.proofs.Common.{◌≡◌, ◌≢◌, ◌∙◌, ℕ, ◌<◌, ◌≤◌, Bool, true, false, cond, eqb, ltb, List, [], ◌∷◌, Option}
use Rattle.std.proofs.Common.{Some, None}
use Rattle.std.proofs.Common.{refl, sym, ap, subst, arith}
use Rattle.std.proofs.lemmas.Bool.{eqb-true, ltb-true, eq-eqb}
use Rattle.std.specs.List.{AllByRecursion}
use Rattle.cue_device.specs.declared.asked.Command.{Command}
use Rattle.cue_device.specs.declared.asked.Command.TheVariants.{Standby, Go, Cancel}
use Rattle.cue_device.specs.declared.asked.Task.{Task}
use Rattle.cue_device.specs.declared.hearing.Device.{Device}
use Rattle.cue_device.specs.declared.hearing.Place.{Place}
use Rattle.cue_device.specs.declared.hearing.Place.TheVariants.{Over, Same, New}
use Rattle.cue_device.specs.declared.hearing.Told.{Told}
use Rattle.cue_device.specs.declared.hearing.Told.TheVariants.{Prepared, Moved, GaveUp, Cannot}
use Rattle.cue_device.specs.declared.phase.Attempt.{Attempt}
use Rattle.cue_device.specs.declared.phase.Phase.{Phase}
use Rattle.cue_device.specs.declared.phase.Phase.TheVariants.{Preparing, Ready, Moving, Done, LettingGo, LetGo, Failed}
use Rattle.cue_device.specs.declared.words.Answer.{Answer}
use Rattle.cue_device.specs.declared.words.Answer.TheVariants.{StandingBy, Complete, Cancelled, Abort}
use Rattle.cue_device.specs.Carrying.{CanGoOn, CarriesOut, IsHarmless, has_aborted}
use Rattle.cue_device.specs.Copies.{is_in_motion, is_of}
use Rattle.cue_device.specs.Hearing.{after_at, after_report, again, answer_at, answered_for, attempt_with_report}
use Rattle.cue_device.specs.Hearing.{heard_at}
use Rattle.cue_device.specs.Hearing.{place, place_known, seq_of, told_at, told_in, told_of}
use Rattle.cue_device.specs.Histories.{Happening, hears, tells, repeats, hears_reply, restarts, after, answer_to}
use Rattle.cue_device.specs.Histories.{answers_of}
use Rattle.cue_device.specs.Histories.{device_after, latest}
use Rattle.cue_device.specs.Table.{answer_over}
use Rattle.cue_device.proofs.CopyLemmas.{FailsNothing, late_order}

-- ---- what is kept

-- the attempt is in motion, for this task
abbrev MotionOf : Option Attempt → Option Task → Type 0
MotionOf None task = ⊥
MotionOf (Some a) task = (is_in_motion a.phase ≡ true) × (a.task ≡ task)

-- the device is in motion for q, and has nothing to repeat
abbrev InMotion : ℕ → Option Task → Device → Type 0
InMotion q task d = (d.last ≡ q) × MotionOf d.attempt task × (d.unheard ≡ false)

-- ---- where a number lies

-- what a place says of the number
abbrev Where : Device → ℕ → Place → Type 0
Where d s Over = s ≡ d.last → d.attempt ≡ None
Where d s (Same a) = (s ≡ d.last) × (d.attempt ≡ Some a)
Where d s New = d.last < s

known_where : (d : Device) (s : ℕ) (b : Bool) (o : Option Attempt) → eqb s d.last ≡ b → d.attempt ≡ o
    → Where d s (place_known b o)
known_where d s b None e f = λ same. f
known_where d s true (Some a) e f = (eqb-true s d.last e, f)
known_where d s false (Some a) e f = λ same. let t : eqb s d.last ≡ true = eq-eqb s d.last same in absurd cc

any_where : (d : Device) (s : ℕ) (b : Bool) → ltb d.last s ≡ b
    → Where d s (cond b New (place_known (eqb s d.last) d.attempt))
any_where d s true e = ltb-true d.last s e
any_where d s false e = known_where d s (eqb s d.last) d.attempt refl refl

where_is : (d : Device) (s : ℕ) → Where d s (place d s)
where_is d s = any_where d s (ltb d.last s) refl

-- ---- what is heard

-- the number of an answer
abbrev number_in : Option Answer → ℕ
number_in None = 0
number_in (Some x) = answered_for x

over_answer : (c : Command) (q : ℕ) → (seq_of c ≡ q → ⊥) → Some (answer_over c) ≢ Some (Abort q)
over_answer (Standby p t) q other = λ e. other (ap number_in e)
over_answer (Go p) q other = λ e. other (ap number_in e)
over_answer (Cancel p) q other = λ e. absurd cc

no_higher : (m n q : ℕ) → m < n → n ≤ q → m ≡ q → ⊥
no_higher m n q lt le e = omega arith

hear_step : (p : Place) (q : ℕ) (task : Option Task) (d : Device) (c : Command) → Where d (seq_of c) p
    → IsHarmless q task (hears c) → InMotion q task d
    → InMotion q task (after_at p c d) × ((heard_at p c d).answer ≢ Some (Abort q))
hear_step Over q task d c w h m =
    (m, over_answer c q (λ e. subst (λ (o : Option Attempt). MotionOf o task) (w (e ∙ sym m.0)) m.1))
hear_step (Same a) q task d c w h m =
    let mo : MotionOf (Some a) task = subst (λ (o : Option Attempt). MotionOf o task) w.1 m.1 in
    let of : is_of a.task c ≡ true = subst (λ (x : Option Task). is_of x c ≡ true) (sym mo.1) (h.1 (w.0 ∙ m.0)) in
    let late : FailsNothing (seq_of c) a.phase (again a c) = late_order a c mo.0 of in (
      (m.0, (subst (λ (x : Phase). is_in_motion x ≡ true) (sym late.0) mo.0, mo.1), m.2),
      λ e. late.1 (e ∙ ap (λ (n : ℕ). Some (Abort n)) (sym (w.0 ∙ m.0))),
    )
hear_step New q task d c w h m = absurd (no_higher d.last (seq_of c) q w h.0 m.0)

-- ---- what is told

tell_cell : (t : Told) (p : Phase) (q : ℕ) (task x : Option Task) (d : Device) → told_of t ≡ q → CanGoOn q t
    → InMotion q task d → x ≡ task → is_in_motion p ≡ true
    → InMotion q task (attempt_with_report t x (told_in t p) (after_report t d))
    × ((told_in t p).answer ≢ Some (Abort q))
tell_cell (Prepared n) Preparing q task x d at can m same in_motion = absurd cc
tell_cell (Prepared n) Ready q task x d at can m same in_motion = absurd cc
tell_cell (Prepared n) Moving q task x d at can m same in_motion = (m, λ e. absurd cc)
tell_cell (Prepared n) Done q task x d at can m same in_motion = (m, λ e. absurd cc)
tell_cell (Prepared n) LettingGo q task x d at can m same in_motion = absurd cc
tell_cell (Prepared n) LetGo q task x d at can m same in_motion = absurd cc
tell_cell (Prepared n) Failed q task x d at can m same in_motion = absurd cc
tell_cell (Moved n) Preparing q task x d at can m same in_motion = absurd cc
tell_cell (Moved n) Ready q task x d at can m same in_motion = absurd cc
tell_cell (Moved n) Moving q task x d at can m same in_motion = ((m.0, (refl, same), m.2), λ e. absurd cc)
tell_cell (Moved n) Done q task x d at can m same in_motion = (m, λ e. absurd cc)
tell_cell (Moved n) LettingGo q task x d at can m same in_motion = absurd cc
tell_cell (Moved n) LetGo q task x d at can m same in_motion = absurd cc
tell_cell (Moved n) Failed q task x d at can m same in_motion = absurd cc
tell_cell (GaveUp n) Preparing q task x d at can m same in_motion = absurd cc
tell_cell (GaveUp n) Ready q task x d at can m same in_motion = absurd cc
tell_cell (GaveUp n) Moving q task x d at can m same in_motion = (m, λ e. absurd cc)
tell_cell (GaveUp n) Done q task x d at can m same in_motion = (m, λ e. absurd cc)
tell_cell (GaveUp n) LettingGo q task x d at can m same in_motion = absurd cc
tell_cell (GaveUp n) LetGo q task x d at can m same in_motion = absurd cc
tell_cell (GaveUp n) Failed q task x d at can m same in_motion = absurd cc
tell_cell (Cannot n) Preparing q task x d at can m same in_motion = absurd cc
tell_cell (Cannot n) Ready q task x d at can m same in_motion = absurd cc
tell_cell (Cannot n) Moving q task x d at can m same in_motion = absurd (can at)
tell_cell (Cannot n) Done q task x d at can m same in_motion = absurd (can at)
tell_cell (Cannot n) LettingGo q task x d at can m same in_motion = absurd cc
tell_cell (Cannot n) LetGo q task x d at can m same in_motion = absurd cc
tell_cell (Cannot n) Failed q task x d at can m same in_motion = absurd cc

tell_step : (p : Place) (q : ℕ) (task : Option Task) (d : Device) (t : Told) → Where d (told_of t) p → CanGoOn q t
    → InMotion q task d → InMotion q task (told_at p t d) × (answer_at p t ≢ Some (Abort q))
tell_step Over q task d t w can m = (m, λ e. absurd cc)
tell_step (Same a) q task d t w can m =
    let mo : MotionOf (Some a) task = subst (λ (o : Option Attempt). MotionOf o task) w.1 m.1 in
    tell_cell t a.phase q task a.task d (w.0 ∙ m.0) can m mo.1 mo.0
tell_step New q task d t w can m = (m, λ e. absurd cc)

-- ---- all that happens

step : (h : Happening) (q : ℕ) (task : Option Task) (d : Device) → IsHarmless q task h → InMotion q task d
    → InMotion q task (after h d) × (answer_to h d ≢ Some (Abort q))
step (hears c) q task d h m = hear_step (place d (seq_of c)) q task d c (where_is d (seq_of c)) h m
step (tells t) q task d h m = tell_step (place d (told_of t)) q task d t (where_is d (told_of t)) h m
step repeats q task d h m = (m, rw m.2 (λ e. absurd cc))
step hears_reply q task d h m = ((m.0, m.1, refl), λ e. absurd cc)
step (restarts n) q task d h m = absurd h

differ : (p q : ℕ) → (p ≡ q → ⊥) → (b : Bool) → eqb p q ≡ b → eqb p q ≡ false
differ p q other true e = absurd (other (eqb-true p q e))
differ p q other false e = e

still : (o : Option Answer) (q : ℕ) (xs : List Answer) → o ≢ Some (Abort q) → has_aborted q xs ≡ false
    → has_aborted q (latest o xs) ≡ false
still None q xs other s = s
still (Some (StandingBy p)) q xs other s = s
still (Some (Complete p)) q xs other s = s
still (Some (Cancelled p)) q xs other s = s
still (Some (Abort p)) q xs other s =
    rw (differ p q (λ e. other (ap (λ (n : ℕ). Some (Abort n)) e)) (eqb p q) refl) s

carries : (q : ℕ) (task : Option Task) (d : Device) (hs : List Happening) → InMotion q task d
    → AllByRecursion (λ h. IsHarmless q task h) hs
    → InMotion q task (device_after d hs) × (has_aborted q (answers_of d hs) ≡ false)
carries q task d [] m all = (m, refl)
carries q task d (h ∷ hs) m all =
    let before = carries q task d hs m all.1 in
    let now = step h q task (device_after d hs) all.0 before.0 in
    (now.0, still (answer_to h (device_after d hs)) q (answers_of d hs) now.1 before.1)

pub carries_out : CarriesOut
carries_out d a q hs last is phase quiet all =
    let mo : MotionOf d.attempt a.task = subst (λ (o : Option Attempt). MotionOf o a.task) (sym is) (phase, refl) in
    (carries q a.task d hs (last, mo, quiet) all).1
