-- Commands that come together and are judged in turn, each on the state after those before it.
use Rattle.std.specs.Prelude.{◌≡◌, ℕ, List, [], ◌∷◌, ◌++◌, IsTrue}
use Rattle.std.specs.List.{list_all, flat_map}
use Rattle.cue_core.specs.declared.event.Event.{Event}
use Rattle.cue_core.specs.declared.command.Command.{Command}
use Rattle.cue_core.specs.declared.command.Verdict.{Verdict}
use Rattle.cue_core.specs.State.{ShowState, is_state}
use Rattle.cue_core.specs.Steps.{are_acceptable, after_events}
use Rattle.cue_core.specs.Judge.{judgement_of, is_fit}
use Rattle.cue_core.specs.History.{state_of}
use Rattle.cue_core.specs.Happenings.{Happening, commanded, history_of, onto}

-- a command that was judged: the state before it, its time, the port that it came from, and what became of it
pub record Step : Type 0 where
  pub before : ShowState
  pub now : ℕ
  pub from : ℕ
  pub command : Command
  pub verdict : Verdict
  pub events : List Event

-- the command judged on the state, with what became of it
abbrev pub step_of : ShowState → ℕ → ℕ → Command → Step
step_of s now from asked =
    record {
      before = s;
      now = now;
      from = from;
      command = asked;
      verdict = (judgement_of s now from asked).0;
      events = (judgement_of s now from asked).1;
    }

-- each command judged on the state after those before it
abbrev pub steps : ShowState → ℕ → ℕ → List Command → List Step
steps s now from [] = []
steps s now from (asked ∷ others) =
    step_of s now from asked ∷ steps (after_events s (judgement_of s now from asked).1) now from others

-- the events of all, in turn
abbrev pub events_of : List Step → List Event
events_of xs = flat_map (λ x. x.events) xs

-- what came, the newest first, with the commands after it
abbrev pub then_commanded : ℕ → ℕ → List Command → List Happening → List Happening
then_commanded now from [] before = before
then_commanded now from (asked ∷ others) before = then_commanded now from others (commanded now from asked ∷ before)

-- The events of commands that are judged in turn are acceptable in turn.
abbrev pub StepsAreAcceptable : Type 0
StepsAreAcceptable =
    (s : ShowState) (now from : ℕ) (commands : List Command) → IsTrue (is_state s) → IsTrue (list_all is_fit commands)
    → IsTrue (are_acceptable s (events_of (steps s now from commands)))

-- Later commands are judged on the state that the events of the earlier ones lead to.
abbrev pub StepsGoOn : Type 0
StepsGoOn =
    (s : ShowState) (now from : ℕ) (first others : List Command)
    → steps s now from (first ++ others)
    ≡ steps s now from first ++ steps (after_events s (events_of (steps s now from first))) now from others

-- The history of what came and of the commands after it is that of what came, with the events of the commands in turn.
abbrev pub StepsMakeHistories : Type 0
StepsMakeHistories =
    (before : List Happening) (now from : ℕ) (commands : List Command)
    → history_of (then_commanded now from commands before)
    ≡ onto (events_of (steps (state_of (history_of before)) now from commands)) (history_of before)
