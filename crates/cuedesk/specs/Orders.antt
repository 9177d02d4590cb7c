-- What a command that is typed comes to: what is asked, what is printed, and how it ends.
use Rattle.std.specs.Prelude.{◌≡◌, ◌⊎◌, ℕ, true, if◌then◌else◌, List, [], ◌∷◌, ◌++◌, codes, Option, None, Some, is_some}
use Rattle.std.specs.Prelude.{Result, Ok, Err, IfErr, OnOk}
use Rattle.std.specs.Io.KnownBytes.{Appends}
use Rattle.cue_asker.specs.declared.naming.AskerName.{AskerName}
use Rattle.cue_machine.specs.Hearing.{Told}
use Rattle.cue_machine.specs.Posting.{Posted}
use Rattle.cue_desk.specs.declared.asking.AskFault.{AskFault}
use Rattle.cue_desk.specs.declared.ending.Ending.{Ending}
use Rattle.cue_desk.specs.declared.ending.Ending.TheVariants as ending
use Rattle.cue_desk.specs.declared.orders.DeskCommand.{DeskCommand}
use Rattle.cue_desk.specs.declared.orders.DeskCommand.TheVariants as order
use Rattle.cue_desk.specs.declared.replying.Replied.TheVariants as replied
use Rattle.cue_desk.specs.Ports.{port_of}
use Rattle.cue_ask_machine.specs.declared.question.Question.{Question}
use Rattle.cue_ask_machine.specs.declared.stage.AskEnd.{AskEnd}
use Rattle.cue_ask_machine.specs.declared.stage.AskEnd.TheVariants as end
use Rattle.cue_ask_machine.specs.Lives.{Asked}
use Rattle.cue_order_words.specs.declared.way_back.WayBack.{WayBack}
use Rattle.cue_order_words.specs.declared.words.Answer.{Answer}
use Rattle.cue_order_words.specs.Told.{ending_of, told_of}
use Rattle.cue_order_words.specs.WayBack.{back_to, is_move, way_back, words_back}
use Rattle.cue_order_words.specs.Words.{answer_words}

-- ---- what is printed

abbrev pub line_of : List ℕ → List ℕ
line_of text = text ++ codes "\n"

-- what became of a command, as its words say it
abbrev pub answer_line : Answer → List ℕ
answer_line a = line_of (answer_words a.told.now a.order.now a.port)

-- how to go back, if a move was made
abbrev pub back_line : Option WayBack → ℕ → List ℕ
back_line None port = []
back_line (Some way) port = line_of (words_back way port)

-- a command that is done prints this, unless the output fails; any other ends so, and prints nothing
abbrev pub TellsBy : Option Ending → List ℕ → Result (Unit {0}) Ending → (out out_then : Option (List ℕ)) → Type 0
TellsBy None text result out out_then =
    OnOk result (Appends out out_then text) × IfErr result (λ e. e ≡ ending.Unwritten)
TellsBy (Some e) text result out out_then = (result ≡ Err e) × (out_then ≡ out)

-- what is printed of a question that ended so
abbrev pub text_of : Question → AskEnd → Option WayBack → List ℕ
text_of q e before =
    line_of (answer_words (told_of e) q.order q.port) ++ back_line (way_back (told_of e) before) q.port

-- what is printed, and how the command ends, is that of how its question ended
abbrev pub Tells : Question → AskEnd → Option WayBack → Result (Unit {0}) Ending → (out out_then : Option (List ℕ))
    → Type 0
Tells q e before result out out_then = TellsBy (ending_of (told_of e)) (text_of q e before) result out out_then

-- ---- what is asked

-- what was asked ended so; that it could not be sent is no such end
abbrev pub IsEnd : AskEnd → AskEnd → Type 0
IsEnd end.Lost e = ⊥
IsEnd x e = e ≡ x

-- if nothing could be heard any more, nobody replied
abbrev pub IsEndOf : Result (Option AskEnd) AskFault → AskEnd → Type 0
IsEndOf (Ok (Some x)) e = IsEnd x e
IsEndOf (Ok None) e = e ≡ end.Silent
IsEndOf (Err fault) e = ⊥

-- This question was asked, over a whole life of its own, and ended so.
pub record EndedSo (q : Question) (e : AskEnd) : Type 0 where
  pub told : Option (List Told)
  pub told_then : Option (List Told)
  pub left : Option (List Posted)
  pub left_then : Option (List Posted)
  pub found : Option AskEnd
  pub asked : Asked q found told told_then left left_then
  pub is : IsEndOf (Ok found) e

-- what a question asks, and at which port
pub record Asking : Type 0 where
  pub order : DeskCommand
  pub others : List (List ℕ)
  pub port : ℕ

abbrev pub asking_of : Question → Asking
asking_of q = record { order = q.order; others = q.others.now; port = q.port }

-- the status
abbrev pub status_at : ℕ → Asking
status_at port = record { order = order.Status; others = []; port = port }

-- what is asked before a question: the status before a move, for the place
abbrev pub first_for : Question → List Asking
first_for q = if is_move q.order then status_at q.port ∷ [] else []

-- the way back to the place that a status says
abbrev pub back_in : AskEnd → Option WayBack
back_in (end.Replied (replied.Status status)) = Some (back_to status.place)
back_in (end.Replied (replied.Reply made known refused code)) = None
back_in end.Nobody = None
back_in end.Silent = None
back_in end.Lost = None

-- The controller at this port was asked for its status, and said the place to which this is the way.
pub record IsBackAt (port : ℕ) (way : WayBack) : Type 0 where
  pub q : Question
  pub status : q.order ≡ order.Status
  pub port_is : q.port ≡ port
  pub e : AskEnd
  pub ended : EndedSo q e
  pub said : back_in e ≡ Some way

-- the way back from a move is that to the place before it, if the controller says that
abbrev pub IsBackBefore : Question → Option WayBack → Type 0
IsBackBefore q None = Unit {0}
IsBackBefore q (Some way) = (is_move q.order ≡ true) × IsBackAt q.port way

-- The question was asked, and what is printed and how it ends are those of its end.
pub record CarriedOut (q : Question) (result : Result (Unit {0}) Ending) (out out_then : Option (List ℕ)) : Type 0 where
  pub e : AskEnd
  pub ended : EndedSo q e
  pub before : Option WayBack
  pub back : IsBackBefore q before
  pub tells : Tells q e before result out out_then

-- What comes of a question that was typed: it is asked and told; or nothing was sent, and nothing is printed.
abbrev pub Carried : Question → Result (Unit {0}) Ending → (out out_then : Option (List ℕ)) → Type 0
Carried q result out out_then =
    CarriedOut q result out out_then ⊎ ((result ≡ Err ending.Failed) × (out_then ≡ out))

-- The same of what was typed: this is asked, with these others, at the port that was said or else the usual one, and who
-- asks is said if there is a name.
pub record CarriedTyped (o : DeskCommand) (others : List (List ℕ)) (port : Option ℕ) (name : Option AskerName)
    (result : Result (Unit {0}) Ending) (out out_then : Option (List ℕ)) : Type 0 where
  pub q : Question
  pub asks : q.order ≡ o
  pub with : q.others.now ≡ others
  pub at : q.port ≡ port_of port None
  pub named : is_some q.name ≡ is_some name
  pub carried : Carried q result out out_then
