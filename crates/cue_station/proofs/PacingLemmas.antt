-- Half a second after a question the next one is due.
use Rattle.std.proofs.Common.{◌≡◌, refl, ℕ, Bool, true, false, ◌+◌, ◌&&◌, Option, None, Some, IsTrue, is_some, nat_le}
use Rattle.std.proofs.Common.{arith, nat_lt}
use Rattle.std.proofs.lemmas.Bool.Decides.{nat_tests}
use Rattle.cue_show.proofs.TestLemmas.{or_right}
use Rattle.cue_desk.specs.declared.orders.DeskCommand.{DeskCommand}
use Rattle.cue_station.specs.declared.memory.Notes.{Notes}
use Rattle.cue_station.specs.declared.memory.Pace.{Pace}
use Rattle.cue_station.specs.declared.memory.Question.{Question}
use Rattle.cue_station.specs.declared.limits.TheConstants.{ASK_AGAIN_MS}
use Rattle.cue_station.specs.Noting.{send_by}
use Rattle.cue_station.specs.Pacing.{is_at_once, is_due, is_due_after, is_overdue, wait_by}

sooner : (at now : ℕ) → IsTrue (nat_le (at + 500) now) → IsTrue (nat_le (at + 100) now)
sooner at now h = grind (arith, nat_tests)

waited : (at now : ℕ) (answered : Bool) → IsTrue (nat_le (at + ASK_AGAIN_MS) now)
    → IsTrue (nat_le (at + wait_by answered) now)
waited at now true h = sooner at now h
waited at now false h = h

overdue_after : (o : Option Question) (n : Notes) (p : Pace) (now : ℕ) → IsTrue (is_overdue o now)
    → is_due_after o n p now ≡ true
overdue_after None n p now h = refl
overdue_after (Some q) n p now h =
    or_right (is_at_once n p now && nat_lt q.at now) (nat_le (q.at + wait_by p.is_answered) now)
    (waited q.at now p.is_answered h)

pub overdue-due : (n : Notes) (p : Pace) (now : ℕ) → IsTrue (is_overdue n.question now) → is_due n p now ≡ true
overdue-due n p now h = overdue_after n.question n p now h

-- what is due goes out, if no press does
pub due-sent : (o : Option DeskCommand) (due : Bool) (n : ℕ) → due ≡ true → is_some (send_by o due n) ≡ true
due-sent (Some x) due n h = refl
due-sent None true n h = refl
due-sent None false n h = (cc)
