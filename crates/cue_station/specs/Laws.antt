-- The law of the desk: what holds of each turn, whatever came before it.
--
-- What it cannot say: what another operator does between the copy and the moment at which the controller judges a
-- message; which attempt that is then, since `go` names a cue and no number; and which program holds the port. What it
-- does not say: that the status is asked sooner than after half a second; and that more than 64 failures are kept that the
-- newest copy no longer tells of: those that were told first go first.
use Rattle.std.specs.Prelude.{◌≡◌, ℕ, Bool, true, false, List, [], ◌∷◌, Some, IsSome, IsTrue, is_some, ◌⊎◌, length}
use Rattle.std.specs.List.{list_any}
use Rattle.cue_desk.specs.declared.orders.DeskCommand.TheVariants as order
use Rattle.cue_view.specs.declared.button.Button.{Button}
use Rattle.cue_view.specs.declared.button.Button.TheVariants as button
use Rattle.cue_station.specs.declared.heard.Heard.TheVariants.{Pressed}
use Rattle.cue_station.specs.declared.heard.Send.{Send}
use Rattle.cue_station.specs.Turns.{Turn}
use Rattle.cue_station.specs.Reading.{reading_of, answered_of, question_of, seen_since}
use Rattle.cue_station.specs.Alarms.{asked_at, differs_since, read_at, stands_by, trouble_of}
use Rattle.cue_station.specs.Asking.{is_press_sent, said_before, said_of}
use Rattle.cue_station.specs.Choosing.{chosen_of, chosen_number, is_awaited}
use Rattle.cue_station.specs.Drawing.{ShowsReading, alarms_of, failures_shown}
use Rattle.cue_station.specs.Lighting.{may}
use Rattle.cue_station.specs.Network.{network_by, relayed_of, stamped_at}
use Rattle.cue_station.specs.Moving.{back_by, moved_of, place_by}
use Rattle.cue_station.specs.Offering.{is_lit}
use Rattle.cue_station.specs.Pacing.{is_overdue}
use Rattle.cue_station.specs.Pressing.{IsOfPress, asks_of, is_heeded, order_of, unsent_of}
use Rattle.cue_station.specs.Showing.{given_since}
use Rattle.cue_station.specs.Smaller.{is_failure_of}

-- the three great buttons
abbrev pub is_key : Button → Bool
is_key (button.Standby c) = true
is_key (button.Go c q) = true
is_key (button.Cancel c q) = true
is_key (button.Release q d) = false
is_key (button.MoveTo c) = false
is_key (button.Choose q) = false
is_key (button.Seen q) = false

-- LIT IS SO: what is lit may be lit; of the great buttons, and of the moves to cues, what may be lit is; and that a
-- failure was seen can be said exactly if its alarm is shown.
pub record LitIsSo (t : Turn) (past : List Turn) : Type 0 where
  pub lit : (b : Button) → IsTrue (is_lit b t.view.lit.items)
      → IsTrue (may (t ∷ past) t.input.at t.input.wall b)
  pub dark : (b : Button) → IsTrue (is_key b) → IsTrue (may (t ∷ past) t.input.at t.input.wall b)
      → IsTrue (is_lit b t.view.lit.items)
  pub moves : (c : List ℕ) → IsTrue (may (t ∷ past) t.input.at t.input.wall (button.MoveTo c))
      → IsTrue (is_lit (button.MoveTo c) t.view.lit.items)
  pub seen : (q : ℕ) → is_lit (button.Seen q) t.view.lit.items ≡ list_any (is_failure_of q) t.view.alarms.items

-- A PRESS IS WHAT WAS SHOWN, AND YOUNG: nothing is sent but for a press that is heeded, or to ask for the status, each
-- by an ask of its own; a press that is heeded is sent; and of one that is not heeded the view says why, of no other.
pub record PressIsSo (t : Turn) (past : List Turn) : Type 0 where
  pub sent : (s : Send) → t.sent ≡ Some s → (s.order ≡ order.Status) ⊎ IsOfPress t past s
  pub own : (s : Send) → t.sent ≡ Some s → s.ask ≡ asks_of past
  pub heeded : (view : ℕ) (b : Button) → t.input.heard ≡ Pressed view b
      → IsTrue (is_heeded past t.input.at t.input.wall view b) → IsSome (order_of b) → IsTrue (is_press_sent t.sent)
  pub told : t.view.unsent ≡ unsent_of past t.input

-- THE STATUS IS ASKED: if none was ever asked, or half a second ago, a message goes out: a question, or that of a
-- press.
abbrev pub StatusIsAsked : Turn → List Turn → Type 0
StatusIsAsked t past = IsTrue (is_overdue (question_of past) t.input.at) → IsSome t.sent

-- THE ANSWER IS THIS PRESS'S: what is said of the last press that was sent is what came to its own socket, or what the
-- store shows that was read later, or that it is open.
abbrev pub AnswerIsSo : Turn → List Turn → Type 0
AnswerIsSo t past = t.view.said ≡ said_of (t ∷ past)

-- NOTHING IS OLDER THAN IT SAYS.
pub record AgeIsSo (t : Turn) (past : List Turn) : Type 0 where
  pub made : t.view.at ≡ t.input.at
  pub read : t.view.read ≡ read_at (reading_of (t ∷ past))
  pub served : t.view.served ≡ asked_at (answered_of (t ∷ past))
  pub stamped : t.view.stamped ≡ stamped_at (relayed_of (t ∷ past))

-- LAST IS SO, AND SO ARE NEXT, THE STACK AND WHAT IS LIVE: by the newest copy and its events, and no first cue after
-- the end; an attempt is ready only if GO can be given.
abbrev pub CopyIsSo : Turn → List Turn → Type 0
CopyIsSo t past =
    ShowsReading (stands_by t.input.at (trouble_of (t ∷ past)) (answered_of (t ∷ past)) (reading_of (t ∷ past)))
    (λ q. seen_since q (t ∷ past)) (λ q. given_since q (t ∷ past)) t.input.at t.input.wall t.view
    (reading_of (t ∷ past))

-- SO IS THAT OF THE PRESS BEFORE IT: the end of an open GO is told also if CANCEL was pressed after it.
abbrev pub BeforeIsSo : Turn → List Turn → Type 0
BeforeIsSo t past = t.view.before ≡ said_before (t ∷ past)

-- AFTER GO NOTHING IS CHOSEN, until a press chooses.
abbrev pub NoHop : Turn → List Turn → Type 0
NoHop t past = t.view.chosen ≡ chosen_number (chosen_of (t ∷ past))

-- WHAT IS NOT SETTLED IS SAID: a STANDBY of ours whose attempt is not shown yet, and a status that is not of the newest
-- copy.
pub record UnsettledIsSo (t : Turn) (past : List Turn) : Type 0 where
  pub awaits : t.view.awaits ≡ is_awaited (chosen_of (t ∷ past))
  pub differs : t.view.differs ≡ is_some (differs_since (t ∷ past))

-- THE WAY BACK IS SO: where the last press moved the place from, as long as the place is where it moved it.
abbrev pub BackIsSo : Turn → List Turn → Type 0
BackIsSo t past = t.view.back ≡ back_by (moved_of (t ∷ past)) (place_by (reading_of (t ∷ past)))

-- WHAT IS WRONG IS SAID, the loudest first, and nothing else is.
abbrev pub AlarmIsSo : Turn → List Turn → Type 0
AlarmIsSo t past = t.view.alarms.items ≡ alarms_of (t ∷ past) t.input.at t.input.wall

-- A FAILURE STAYS UNTIL SOMEBODY SAYS THAT IT WAS SEEN, as a copy told of it that knew its cue; each has its alarm.
abbrev pub FailureStays : Turn → List Turn → Type 0
FailureStays t past = t.view.failed.items ≡ failures_shown (t ∷ past)

-- THE NETWORK IS WHAT THE RELAY SAYS, and nothing if it has stopped.
abbrev pub NetworkIsSo : Turn → List Turn → Type 0
NetworkIsSo t past = t.view.network.items ≡ network_by (relayed_of (t ∷ past)) t.input.at

-- A LATER VIEW HAS A HIGHER NUMBER: that of the views before it.
abbrev pub IsNewest : Turn → List Turn → Type 0
IsNewest t past = t.view.number ≡ length past

-- the law of a turn
pub record Keeps (t : Turn) (past : List Turn) : Type 0 where
  pub lit : LitIsSo t past
  pub press : PressIsSo t past
  pub asked : StatusIsAsked t past
  pub answer : AnswerIsSo t past
  pub before : BeforeIsSo t past
  pub age : AgeIsSo t past
  pub copy : CopyIsSo t past
  pub chosen : NoHop t past
  pub unsettled : UnsettledIsSo t past
  pub back : BackIsSo t past
  pub alarm : AlarmIsSo t past
  pub failed : FailureStays t past
  pub network : NetworkIsSo t past
  pub newest : IsNewest t past

-- the law of an evening
abbrev pub KeepsLaw : List Turn → Type 0
KeepsLaw [] = Unit {0}
KeepsLaw (t ∷ past) = Keeps t past × KeepsLaw past
