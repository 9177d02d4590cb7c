-- Each copy has its answer, and a late one fails nothing.
use Rattle.std.proofs.Common.{◌≡◌, ◌≢◌, ◌∙◌, ℕ, Bool, true, false, if◌then◌else◌, Some, is_some, refl, sym, ap, subst}
use Rattle.cue_device.specs.declared.asked.Command.{Command}
use Rattle.cue_device.specs.declared.asked.Command.TheVariants.{Standby, Go, Cancel}
use Rattle.cue_device.specs.declared.hearing.Device.{Device}
use Rattle.cue_device.specs.declared.hearing.Place.{Place}
use Rattle.cue_device.specs.declared.hearing.Place.TheVariants.{Same}
use Rattle.cue_device.specs.declared.phase.Attempt.{Attempt}
use Rattle.cue_device.specs.declared.phase.Phase.{Phase}
use Rattle.cue_device.specs.declared.phase.Phase.TheVariants.{Preparing, Ready, Moving, Done, LettingGo, LetGo, Failed}
use Rattle.cue_device.specs.declared.phase.Cell.{Cell}
use Rattle.cue_device.specs.declared.words.Answer.TheVariants.{Abort}
use Rattle.cue_device.specs.Hearing.{after_at, again, what_comes_of, heard_at, is_for, phase_now, place, seq_of}
use Rattle.cue_device.specs.Table.{same_standby, other_standby, same_go, same_cancel}
use Rattle.cue_device.specs.Copies.{ReadyAnswers, DoneAnswers, LetGoAnswers, FailedAnswers, LateCopiesFailNothing}
use Rattle.cue_device.specs.Copies.{is_in_motion, is_of}

-- at the attempt's place the row of its own number answers
at_place : (d : Device) (a : Attempt) (c : Command) → place d (seq_of c) ≡ Same a
    → (what_comes_of c d).answer ≡ (again a c).answer
at_place d a c e = ap (λ (p : Place). (heard_at p c d).answer) e

pub ready_answers : ReadyAnswers
ready_answers d a q t e p f =
    at_place d a (Standby q t) e
    ∙ ap (λ (b : Bool). (if b then same_standby q a.phase else other_standby q a.phase).answer) f
    ∙ ap (λ (x : Phase). (same_standby q x).answer) p

pub done_answers : DoneAnswers
done_answers d a q e p = at_place d a (Go q) e ∙ ap (λ (x : Phase). (same_go q x).answer) p

pub let_go_answers : LetGoAnswers
let_go_answers d a q e p = at_place d a (Cancel q) e ∙ ap (λ (x : Phase). (same_cancel q x).answer) p

-- the two rows of a standby
either_row : (b : Bool) (q : ℕ) → is_some (if b then same_standby q Failed else other_standby q Failed).answer ≡ true
either_row true q = refl
either_row false q = refl

failed_row : (a : Attempt) (c : Command) → a.phase ≡ Failed → is_some (again a c).answer ≡ true
failed_row a (Standby q t) p =
    ap (λ (x : Phase). is_some (if is_for t a.task then same_standby q x else other_standby q x).answer) p
    ∙ either_row (is_for t a.task) q
failed_row a (Go q) p = ap (λ (x : Phase). is_some (same_go q x).answer) p
failed_row a (Cancel q) p = ap (λ (x : Phase). is_some (same_cancel q x).answer) p

pub failed_answers : FailedAnswers
failed_answers d a c e p = ap is_some (at_place d a c e) ∙ failed_row a c p

-- ---- late copies

-- the cell of an order of the attempt keeps the phase, and answers no abort
abbrev pub FailsNothing : ℕ → Phase → Cell → Type 0
FailsNothing q p cell = (cell.phase ≡ p) × (cell.answer ≢ Some (Abort q))

late_standby : (q : ℕ) (p : Phase) → is_in_motion p ≡ true → FailsNothing q p (same_standby q p)
late_standby q Preparing e = absurd cc
late_standby q Ready e = absurd cc
late_standby q Moving e = (refl, λ w. absurd cc)
late_standby q Done e = (refl, λ w. absurd cc)
late_standby q LettingGo e = absurd cc
late_standby q LetGo e = absurd cc
late_standby q Failed e = absurd cc

late_go : (q : ℕ) (p : Phase) → is_in_motion p ≡ true → FailsNothing q p (same_go q p)
late_go q Preparing e = absurd cc
late_go q Ready e = absurd cc
late_go q Moving e = (refl, λ w. absurd cc)
late_go q Done e = (refl, λ w. absurd cc)
late_go q LettingGo e = absurd cc
late_go q LetGo e = absurd cc
late_go q Failed e = absurd cc

late_cancel : (q : ℕ) (p : Phase) → is_in_motion p ≡ true → FailsNothing q p (same_cancel q p)
late_cancel q Preparing e = absurd cc
late_cancel q Ready e = absurd cc
late_cancel q Moving e = (refl, λ w. absurd cc)
late_cancel q Done e = (refl, λ w. absurd cc)
late_cancel q LettingGo e = absurd cc
late_cancel q LetGo e = absurd cc
late_cancel q Failed e = absurd cc

pub late_order : (a : Attempt) (c : Command) → is_in_motion a.phase ≡ true → is_of a.task c ≡ true
    → FailsNothing (seq_of c) a.phase (again a c)
late_order a (Standby q t) m e =
    subst (λ (b : Bool). FailsNothing q a.phase (if b then same_standby q a.phase else other_standby q a.phase)) (sym e)
    (late_standby q a.phase m)
late_order a (Go q) m e = late_go q a.phase m
late_order a (Cancel q) m e = late_cancel q a.phase m

pub late_copies_fail_nothing : LateCopiesFailNothing
late_copies_fail_nothing d a c e m of =
    let late = late_order a c m of in
    subst (λ (p : Place). (phase_now (after_at p c d).attempt ≡ Some a.phase)
    × ((heard_at p c d).answer ≢ Some (Abort (seq_of c)))) (sym e) (ap (λ (p : Phase). Some p) late.0, late.1)
