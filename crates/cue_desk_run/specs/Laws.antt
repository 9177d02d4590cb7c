-- What no round of a desk sends.
use Rattle.std.specs.Prelude.{◌≡◌, List, [], ◌∷◌, Option, None, Some}
use Rattle.cue_desk.specs.declared.orders.DeskCommand.TheVariants as order
use Rattle.cue_station.specs.declared.heard.Send.{Send}
use Rattle.cue_station.specs.declared.station.Station.{Station}
use Rattle.cue_station.specs.declared.station.Step.{Step}
use Rattle.cue_station.specs.Laws.{KeepsLaw}
use Rattle.cue_station.specs.Memory.{IsAfter}
use Rattle.cue_station.specs.Turns.{Turn}
use Rattle.cue_desk_run.specs.declared.outlet.Outlet.{Outlet}
use Rattle.cue_desk_run.specs.Leaving.{OnlySends, SendsAll}

-- if it says to send something, that is a question for the status
abbrev pub IsQuestion : Option Send → Type 0
IsQuestion None = Unit {0}
IsQuestion (Some s) = s.order ≡ order.Status

abbrev pub AreQuestions : List Step → Type 0
AreQuestions [] = Unit {0}
AreQuestions (s ∷ more) = IsQuestion s.send × AreQuestions more

-- whatever left was a question for the status
pub record OnlyAsks (o o_then : Outlet) : Type 0 where
  pub steps : List Step
  pub questions : AreQuestions steps
  pub sends : SendsAll steps o o_then

-- A ROUND ONLY ASKS: what leaves a desk while it hears no press is no order. So each order that leaves is of a press.
abbrev pub RoundsOnlyAsk : Type 0
RoundsOnlyAsk =
    (old new : Station) (o o_then : Outlet) → OnlySends old new o o_then
    → (past : List Turn) → KeepsLaw past → IsAfter past old → OnlyAsks o o_then
