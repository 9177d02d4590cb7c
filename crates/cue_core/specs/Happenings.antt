-- Commands that are judged and applied in turn, ticks of the clock, and recoveries from power loss between them.
use Rattle.std.specs.Prelude.{ℕ, Bool, true, List, [], ◌∷◌, map, filter, IsTrue}
use Rattle.std.specs.List.{list_all}
use Rattle.cue_exchange.specs.declared.attempt.Reason.{Reason}
use Rattle.cue_exchange.specs.declared.attempt.Reason.TheVariants.{Deadline, Power}
use Rattle.cue_exchange.specs.declared.attempt.Attempt.{Attempt}
use Rattle.cue_exchange.specs.Answers.{is_preparing}
use Rattle.cue_exchange.specs.Live.{is_due}
use Rattle.cue_core.specs.declared.event.Event.{Event}
use Rattle.cue_core.specs.declared.event.Event.TheVariants.{Cancel}
use Rattle.cue_core.specs.declared.command.Command.{Command}
use Rattle.cue_core.specs.State.{ShowState}
use Rattle.cue_core.specs.Judge.{judgement_of, is_fit}
use Rattle.cue_core.specs.History.{state_of, is_history}
use Rattle.cue_core.specs.InOrder.{is_in_order}

-- what may come: a command at a time from a port, a tick of the clock, or a recovery from power loss
pub data Happening : Type 0 where
  commanded : (now from : ℕ) (command : Command) → Happening
  ticked : (now : ℕ) → Happening
  recovered : Happening

-- a command that could be read
abbrev pub can_come : Happening → Bool
can_come (commanded now from command) = is_fit command
can_come (ticked now) = true
can_come recovered = true

-- a Cancel for each live attempt that passes the test, by rising number
abbrev pub cancels : (Attempt → Bool) → Reason → ShowState → List Event
cancels test reason s = map (λ a. Cancel a.seq reason) (filter test s.live)

-- the attempt is Preparing
abbrev pub is_undecided : Attempt → Bool
is_undecided a = is_preparing a.stage

-- the events that are accepted
abbrev pub events_at : ShowState → Happening → List Event
events_at s (commanded now from command) = (judgement_of s now from command).1
events_at s (ticked now) = cancels (is_due now) Deadline s
events_at s recovered = cancels is_undecided Power s

-- the events put in front of a history, the newest first
abbrev pub onto : List Event → List Event → List Event
onto [] past = past
onto (e ∷ es) past = onto es (e ∷ past)

-- the history of all that came, the newest first
abbrev pub history_of : List Happening → List Event
history_of [] = []
history_of (h ∷ before) = onto (events_at (state_of (history_of before)) h) (history_of before)

-- Whatever commands, ticks and recoveries come in turn, the events that are accepted are a history.
abbrev pub CommandsMakeHistories : Type 0
CommandsMakeHistories = (hs : List Happening) → IsTrue (list_all can_come hs) → IsTrue (is_history (history_of hs))

-- And they keep the order: Go only after Ready of each required device, Ready or Excuse of each optional one, and no
-- Cancel; and after Go no Cancel.
abbrev pub CommandsInOrder : Type 0
CommandsInOrder = (hs : List Happening) → IsTrue (list_all can_come hs) → IsTrue (is_in_order (history_of hs))
