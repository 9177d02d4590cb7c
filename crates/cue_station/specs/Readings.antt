-- What the law comes to, in single facts.
use Rattle.std.specs.Prelude.{◌≡◌, ◌+◌, ◌<◌, ◌≤◌, ℕ, true, false, List, ◌∷◌, length, Option, None, Some}
use Rattle.std.specs.Prelude.{IsSome, IsTrue, nat_eq, nat_le}
use Rattle.std.specs.List.{list_any}
use Rattle.cue_core.specs.declared.limits.TheConstants.{STANDBY_MS}
use Rattle.cue_exchange.specs.Live.{attempt_of}
use Rattle.cue_exchange.specs.declared.attempt.Attempt.{Attempt}
use Rattle.cue_view.specs.declared.button.Button.{Button}
use Rattle.cue_view.specs.declared.button.Button.TheVariants as button
use Rattle.cue_station.specs.declared.heard.Copied.{Copied}
use Rattle.cue_view.specs.declared.view.Next.TheVariants as next
use Rattle.cue_view.specs.Sight.{is_in_sight}
use Rattle.cue_station.specs.declared.limits.TheConstants.{KEPT_FAILURES}
use Rattle.cue_station.specs.declared.memory.Reading.{Reading}
use Rattle.cue_station.specs.Turns.{Turn}
use Rattle.cue_station.specs.Alarms.{acknowledged_of, is_acknowledged}
use Rattle.cue_station.specs.Faults.{failing_in}
use Rattle.cue_station.specs.Following.{next_in, has_given, tells_all}
use Rattle.cue_station.specs.Keeping.{failed_of, knows}
use Rattle.cue_station.specs.Laws.{Keeps}
use Rattle.cue_station.specs.Offering.{is_lit}
use Rattle.cue_station.specs.Pressing.{order_of}
use Rattle.cue_station.specs.Reading.{reading_of, seen_since}
use Rattle.cue_station.specs.Sendings.{gives}
use Rattle.cue_station.specs.Smaller.{is_failure_of}

abbrev pub NoCueAfterEnd : Type 0
NoCueAfterEnd =
    (c : Copied) (cue : List ℕ) → c.state.show.place ≡ None → next_in c ≡ next.Cue cue
    → (has_given c ≡ false) × (tells_all c ≡ true)

abbrev pub AfterGoNothing : Type 0
AfterGoNothing = (t : Turn) (past : List Turn) → Keeps t past → IsTrue (gives t.sent) → t.view.chosen ≡ None

-- The newest copy has the attempt q at the cue live, and its ten seconds are over by neither clock: its deadline is
-- after now by the wall, and ten seconds since it was first seen are not over by ours.
pub record IsInTime (c : List ℕ) (q now wall : ℕ) (r : Option Reading) (since : Option ℕ) : Type 0 where
  pub reading : Reading
  pub read : r ≡ Some reading
  pub attempt : Attempt
  pub live : attempt_of reading.copy.state.live q ≡ Some attempt
  pub cue : attempt.cue ≡ c
  pub by_wall : wall < attempt.deadline
  pub seen : ℕ
  pub first : since ≡ Some seen
  pub by_ours : now < seen + STANDBY_MS

-- GO is lit for an attempt only while it is in time
abbrev pub DeadlineIsDark : Type 0
DeadlineIsDark =
    (t : Turn) (past : List Turn) (c : List ℕ) (q : ℕ) → Keeps t past
    → IsTrue (is_lit (button.Go c q) t.view.lit.items)
    → IsInTime c q t.input.at t.input.wall (reading_of (t ∷ past)) (seen_since q (t ∷ past))

-- Nothing can be pressed that is sent while the store is out of sight: its copy is old, or its files are gone.
abbrev pub OutOfSightIsDark : Type 0
OutOfSightIsDark =
    (t : Turn) (past : List Turn) (b : Button) → Keeps t past → IsSome (order_of b)
    → IsTrue (is_lit b t.view.lit.items) → is_in_sight t.view ≡ true

-- what goes wrong in a live attempt has its alarm at once, unless it was seen
abbrev pub FailingIsSaid : Type 0
FailingIsSaid =
    (t : Turn) (past : List Turn) (r : Reading) (q : ℕ) → Keeps t past → reading_of (t ∷ past) ≡ Some r
    → list_any (nat_eq q) (failing_in r.copy.state.live) ≡ true
    → is_acknowledged (acknowledged_of (t ∷ past)) q ≡ false
    → list_any (is_failure_of q) t.view.alarms.items ≡ true

-- What is kept of a failure with its cue is shown with it, and has its alarm, until somebody says that it was seen: as
-- long as no more than 64 are kept, and its number is one of the store's.
abbrev pub FailureIsKept : Type 0
FailureIsKept =
    (t : Turn) (past : List Turn) (r : Reading) (q : ℕ) → Keeps t past → reading_of (t ∷ past) ≡ Some r
    → list_any (knows q) (failed_of past) ≡ true → length (failed_of past) ≤ KEPT_FAILURES
    → IsTrue (nat_le q r.copy.state.last_seq) → is_acknowledged (acknowledged_of (t ∷ past)) q ≡ false
    → (list_any (knows q) t.view.failed.items ≡ true) × (list_any (is_failure_of q) t.view.alarms.items ≡ true)
