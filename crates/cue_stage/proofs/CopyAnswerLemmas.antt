-- A device answers each copy of a last order, unless its machine is at work for it, and answers at the end of that.
use Rattle.std.proofs.Common.{◌≡◌, ℕ, Bool, true, false, ◌&&◌, cond, is_none, Option, None, Some, nat_eq, nat_lt, refl}
use Rattle.std.proofs.Common.{sym, ap, ◌∙◌, subst, true≢false, arith, IsTrue}
use Rattle.std.specs.Option.{option_map_or}
use Rattle.std.proofs.lemmas.Bool.{eqb-true}
use Rattle.std.proofs.lemmas.Bool.Decides.{nat_tests}
use Rattle.cue_core.proofs.lists.ConditionLemmas.{both, same_self}
use Rattle.cue_device.specs.declared.asked.Command.{Command}
use Rattle.cue_device.specs.declared.asked.Command.TheVariants.{Standby, Go, Cancel}
use Rattle.cue_device.specs.declared.hearing.Device.{Device}
use Rattle.cue_device.specs.declared.hearing.Place.{Place}
use Rattle.cue_device.specs.declared.hearing.Place.TheVariants.{Over, Same, New}
use Rattle.cue_device.specs.declared.hearing.Told.{Told}
use Rattle.cue_device.specs.declared.hearing.Told.TheVariants.{Prepared, Moved, GaveUp, Cannot}
use Rattle.cue_device.specs.declared.phase.Attempt.{Attempt}
use Rattle.cue_device.specs.declared.phase.Phase.{Phase}
use Rattle.cue_device.specs.declared.phase.Phase.TheVariants.{Preparing, Ready, Moving, Done, LettingGo, LetGo, Failed}
use Rattle.cue_device.specs.declared.words.Answer.{Answer}
use Rattle.cue_device.specs.declared.words.Answer.TheVariants.{StandingBy, Complete, Cancelled, Abort}
use Rattle.cue_device.specs.declared.asked.Task.{Task}
use Rattle.cue_device.specs.Hearing.{again, is_for, after_at, answer_at, answer_told, heard_at, place, seq_of, told_in}
use Rattle.cue_device.specs.Hearing.{told_of, what_comes_of}
use Rattle.cue_device.specs.Histories.{hears, tells, repeats, hears_reply, restarts}
use Rattle.cue_device.specs.Table.{answer_over, new_number, other_standby, same_cancel, same_go, same_standby}
use Rattle.cue_stage.proofs.PreparedLemmas.{place_same}
use Rattle.cue_stage.specs.Going.{EachCopyIsAnswered, does, is_answer_to, is_end_of_work, is_in_phase, is_silent}

-- the answer is there, and it is one to the order
record Fits (c : Command) (o : Option Answer) : Type 0 where
  answer : Answer
  given : o ≡ Some answer
  fits : IsTrue (is_answer_to c answer)

abbrev aborts : (c : Command) (q : ℕ) → IsTrue (is_answer_to c (Abort q)) → Fits c (Some (Abort q))
aborts c q h = record { answer = Abort q; given = refl; fits = h }

cancelled : (q : ℕ) → Fits (Cancel q) (Some (Cancelled q))
cancelled q = record { answer = Cancelled q; given = refl; fits = same_self q }

-- ---- a copy

go_row : (q : ℕ) (p : Phase) → is_silent (Go q) (same_go q p).phase ≡ false → Fits (Go q) (same_go q p).answer
go_row q Ready h = absurd (true≢false h)
go_row q Moving h = absurd (true≢false h)
go_row q Done h = record { answer = Complete q; given = refl; fits = same_self q }
go_row q Preparing h = aborts (Go q) q (same_self q)
go_row q LettingGo h = aborts (Go q) q (same_self q)
go_row q LetGo h = aborts (Go q) q (same_self q)
go_row q Failed h = aborts (Go q) q (same_self q)

cancel_row : (q : ℕ) (p : Phase) → is_silent (Cancel q) (same_cancel q p).phase ≡ false
    → Fits (Cancel q) (same_cancel q p).answer
cancel_row q Preparing h = absurd (true≢false h)
cancel_row q Ready h = absurd (true≢false h)
cancel_row q Moving h = absurd (true≢false h)
cancel_row q LettingGo h = absurd (true≢false h)
cancel_row q Done h = cancelled q
cancel_row q LetGo h = cancelled q
cancel_row q Failed h = cancelled q

standby_row : (q : ℕ) (t : Task) (p : Phase) → is_silent (Standby q t) (same_standby q p).phase ≡ false
    → Fits (Standby q t) (same_standby q p).answer
standby_row q t Ready h = record { answer = StandingBy q; given = refl; fits = same_self q }
standby_row q t Preparing h = absurd (true≢false h)
standby_row q t Moving h = absurd (true≢false h)
standby_row q t Done h = absurd (true≢false h)
standby_row q t LettingGo h = absurd (true≢false h)
standby_row q t LetGo h = aborts (Standby q t) q (same_self q)
standby_row q t Failed h = aborts (Standby q t) q (same_self q)

other_row : (q : ℕ) (t : Task) (p : Phase) → Fits (Standby q t) (other_standby q p).answer
other_row q t Preparing = aborts (Standby q t) q (same_self q)
other_row q t Ready = aborts (Standby q t) q (same_self q)
other_row q t Moving = aborts (Standby q t) q (same_self q)
other_row q t Done = aborts (Standby q t) q (same_self q)
other_row q t LettingGo = aborts (Standby q t) q (same_self q)
other_row q t LetGo = aborts (Standby q t) q (same_self q)
other_row q t Failed = aborts (Standby q t) q (same_self q)

again_row : (a : Attempt) (c : Command) → is_silent c (again a c).phase ≡ false → Fits c (again a c).answer
again_row a (Standby q t) h = by (is_for t a.task) h
  where
    by : (b : Bool) → is_silent (Standby q t) (cond b (same_standby q a.phase) (other_standby q a.phase)).phase ≡ false
        → Fits (Standby q t) (cond b (same_standby q a.phase) (other_standby q a.phase)).answer
    by true k = standby_row q t a.phase k
    by false k = other_row q t a.phase
again_row a (Go q) h = go_row q a.phase h
again_row a (Cancel q) h = cancel_row q a.phase h

new_row : (free : Bool) (c : Command) → is_silent c (new_number free c).phase ≡ false
    → Fits c (new_number free c).answer
new_row true (Standby q t) h = absurd (true≢false h)
new_row false (Standby q t) h = aborts (Standby q t) q (same_self q)
new_row free (Go q) h = aborts (Go q) q (same_self q)
new_row free (Cancel q) h = cancelled q

over_row : (c : Command) → Fits c (Some (answer_over c))
over_row (Standby q t) = aborts (Standby q t) q (same_self q)
over_row (Go q) = aborts (Go q) q (same_self q)
over_row (Cancel q) = cancelled q

-- a test on the attempt of the last number
of_last : (n q : ℕ) (b : Bool) → q ≡ n → (nat_eq n q && b) ≡ false → b ≡ false
of_last n q b e h = by (nat_eq n q) (subst (λ m. nat_eq n m ≡ true) (sym e) (same_self n)) h
  where
    by : (c : Bool) → c ≡ true → (c && b) ≡ false → b ≡ false
    by true k m = m
    by false k m = absurd (true≢false (sym k))

copy_at : (c : Command) (d : Device) (p : Place) → place d (seq_of c) ≡ p
    → is_in_phase (is_silent c) (seq_of c) (after_at p c d) ≡ false → Fits c (heard_at p c d).answer
copy_at c d Over is h = over_row c
copy_at c d (Same a) is h = again_row a c
    (of_last d.last (seq_of c) (is_silent c (again a c).phase) (place_same d (seq_of c) a is).0 h)
copy_at c d New is h = new_row (is_none d.doing) c
    (of_last (seq_of c) (seq_of c) (is_silent c (new_number (is_none d.doing) c).phase) refl h)

-- ---- a report

place_of : (d : Device) (q : ℕ) (a : Attempt) → nat_eq d.last q ≡ true → d.attempt ≡ Some a → place d q ≡ Same a
place_of d q a e is = rw (low d.last q e, other d.last q e, is) refl
  where
    low : (m n : ℕ) → nat_eq m n ≡ true → nat_lt m n ≡ false
    low m n e = grind (arith, nat_tests)

    other : (m n : ℕ) → nat_eq m n ≡ true → nat_eq n m ≡ true
    other m n e = grind (arith, nat_tests)

flip : (m n : ℕ) → IsTrue (nat_eq m n) → IsTrue (nat_eq n m)
flip m n h = let e : nat_eq m n ≡ true = h in grind (arith, nat_tests)

told_row : (c : Command) (t : Told) (p : Phase) → IsTrue (does c p) → IsTrue (is_end_of_work c t)
    → Fits c (told_in t p).answer
told_row (Standby q task) (Prepared n) Preparing h e =
    record { answer = StandingBy n; given = refl; fits = flip q n e }
told_row (Standby q task) (Cannot n) Preparing h e = record { answer = Abort n; given = refl; fits = flip q n e }
told_row (Go q) (Moved n) Moving h e = record { answer = Complete n; given = refl; fits = flip q n e }
told_row (Go q) (Cannot n) Moving h e = record { answer = Abort n; given = refl; fits = flip q n e }
told_row (Cancel q) (GaveUp n) LettingGo h e = record { answer = Cancelled n; given = refl; fits = flip q n e }
told_row (Cancel q) (Cannot n) LettingGo h e = record { answer = Abort n; given = refl; fits = flip q n e }
told_row (Standby q task) _ Preparing h e = absurd (true≢false (sym e))
told_row (Go q) _ Moving h e = absurd (true≢false (sym e))
told_row (Cancel q) _ LettingGo h e = absurd (true≢false (sym e))
told_row _ t _ h e = absurd (true≢false (sym h))

-- the report is of the number of the order
told_number : (c : Command) (t : Told) → IsTrue (is_end_of_work c t) → seq_of c ≡ told_of t
told_number (Standby q task) (Prepared n) e = eqb-true q n e
told_number (Standby q task) (Cannot n) e = eqb-true q n e
told_number (Go q) (Moved n) e = eqb-true q n e
told_number (Go q) (Cannot n) e = eqb-true q n e
told_number (Cancel q) (GaveUp n) e = eqb-true q n e
told_number (Cancel q) (Cannot n) e = eqb-true q n e
told_number _ _ e = absurd (true≢false (sym e))

report_fits : (c : Command) (t : Told) (d : Device) → IsTrue (is_in_phase (does c) (seq_of c) d) → IsTrue (is_end_of_work c t)
    → Fits c (answer_told t d)
report_fits c t d h e =
    let p = both (nat_eq d.last (seq_of c)) (option_map_or (λ a. does c a.phase) d.attempt false) h in
    by d.attempt refl (subst (λ n. IsTrue (nat_eq d.last n)) (told_number c t e) p.0) p.1
  where
    by : (o : Option Attempt) → d.attempt ≡ o → IsTrue (nat_eq d.last (told_of t))
        → IsTrue (option_map_or (λ a. does c a.phase) o false) → Fits c (answer_told t d)
    by None is n k = absurd (true≢false (sym k))
    by (Some a) is n k =
        let row : Fits c (told_in t a.phase).answer = told_row c t a.phase k e in
        let at : answer_told t d ≡ (told_in t a.phase).answer =
        ap (λ (p : Place). answer_at p t) (place_of d (told_of t) a n is) in
        record { answer = row.answer; given = at ∙ row.given; fits = row.fits }

-- ---- both

pub each_copy_is_answered : EachCopyIsAnswered
each_copy_is_answered c (hears o) d brings =
    let f : Fits c (what_comes_of c d).answer = copy_at c d (place d (seq_of c)) refl brings.1 in
    record {
      answer = f.answer;
      given = ap (λ (x : Command). (what_comes_of x d).answer) brings.0 ∙ f.given;
      fits = f.fits;
    }
each_copy_is_answered c (tells t) d brings =
    let f : Fits c (answer_told t d) = report_fits c t d brings.0 brings.1 in
    record { answer = f.answer; given = f.given; fits = f.fits }
each_copy_is_answered c repeats d brings = absurd brings
each_copy_is_answered c hears_reply d brings = absurd brings
each_copy_is_answered c (restarts n) d brings = absurd brings
