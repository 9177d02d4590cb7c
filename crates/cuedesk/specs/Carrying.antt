-- What a command line comes to.
use Rattle.std.specs.Prelude.{◌≡◌, ◌⊎◌, ◌↔◌, ℕ, Bool, if◌then◌else◌, List, [], Option, Result, Ok, Err, OnOk}
use Rattle.cue_desk.specs.Endings.{ending_status}
use Rattle.cue_desk.specs.Lines.{IsHelp, IsUsage}
use Rattle.cue_desk.specs.declared.ending.Ending.{Ending}
use Rattle.cue_desk.specs.declared.line.LineFault.{LineFault}
use Rattle.cue_desk.specs.declared.orders.DeskCommand.TheVariants as order
use Rattle.cue_desk_line.specs.declared.reading.words.Line.{Line}
use Rattle.cue_desk_line.specs.declared.reading.words.Line.TheVariants as line
use Rattle.cue_operator.specs.declared.method.CueVerb.TheVariants as verb
use Rattle.cue_report.specs.declared.marks.Curtain.{Curtain}
use Rattle.cue_report.specs.declared.marks.Curtain.TheVariants as curtain
use Rattle.cuedesk.specs.Marking.{IsSaid}
use Rattle.cuedesk.specs.Orders.{CarriedTyped}

-- what is marked
abbrev pub curtain_of : (is_up : Bool) → Curtain
curtain_of is_up = if is_up then curtain.Up else curtain.Down

-- What was carried out is what the line says: its order and no other, of its cue, for whoever asks, at its port; with a
-- cue that is stood by those that go with it. A relay ends by a failure alone. Nothing is said of the other commands.
abbrev pub IsCarriedOut : Line → Result (Unit {0}) Ending → (out out_then : Option (List ℕ)) → Type 0
IsCarriedOut (line.Ask o port name) result out out_then = CarriedTyped o [] port name result out out_then
IsCarriedOut (line.StandBy cue others port name) result out out_then =
    CarriedTyped (order.OfCue verb.Standby cue) others.items port name result out out_then
IsCarriedOut (line.Mark file is_up) result out out_then = OnOk result (IsSaid (curtain_of is_up) out out_then)
IsCarriedOut (line.Relay file port status) result out out_then = OnOk result ⊥
IsCarriedOut _ result out out_then = Unit {0}

-- ---- the exit status

-- 0 if it is done
abbrev pub status_of : Result (Unit {0}) Ending → ℕ
status_of (Ok done) = 0
status_of (Err e) = ending_status e

-- A command was carried out, and this is its status.
pub record Performed (status : ℕ) (out out_then : Option (List ℕ)) : Type 0 where
  pub line : Line
  pub result : Result (Unit {0}) Ending
  pub carried : IsCarriedOut line result out out_then
  pub is : status ≡ status_of result

-- There is no command: it is 0 only if help was asked for, and 2 if the line is not understood.
pub record Refused (status : ℕ) : Type 0 where
  pub fault : LineFault
  pub help : status ≡ 0 → IsHelp fault
  pub usage : (status ≡ 2) ↔ IsUsage fault

abbrev pub IsPerformed : (status : ℕ) → (out out_then : Option (List ℕ)) → Type 0
IsPerformed status out out_then = Performed status out out_then ⊎ Refused status
