-- What no life of a question does, whatever is heard and in whatever order, and whatever is lost.
use Rattle.std.specs.Prelude.{◌≡◌, ◌<◌, ◌⊎◌, ℕ, true, List, [], ◌∷◌, Some, ⊤}
use Rattle.cue_machine.specs.Living.{AreTurns, Turn, all_posted}
use Rattle.cue_ask_machine.specs.declared.machine.AskMachine.{AskMachine}
use Rattle.cue_ask_machine.specs.declared.question.Question.{Question}
use Rattle.cue_ask_machine.specs.declared.stage.AskEnd.{AskEnd}
use Rattle.cue_ask_machine.specs.declared.stage.Stage.TheVariants as stage
use Rattle.cue_ask_machine.specs.Lives.{IsNew, IsOf, IsSent, IsTold, Waiting, ask_machine}
use Rattle.cue_ask_machine.specs.Stages.{second_after}
use Rattle.cue_ask_machine.specs.Steps.{is_over, wakes}

-- the machine of this question had these turns, the first of its life and those after it
pub record HadTurns (q : Question) (m : AskMachine) (ts : List Turn) (m_then : AskMachine) : Type 0 where
  pub of : IsOf q m
  pub new : IsNew m
  pub turns : AreTurns ask_machine m ts m_then

-- over a whole life the message leaves at most once, after the name, which leaves at most once; nothing else leaves
abbrev pub SentOnce : Type 0
SentOnce =
    (q : Question) (m : AskMachine) (ts : List Turn) (m_then : AskMachine) → HadTurns q m ts m_then
    → IsSent m (all_posted ts)

-- what is told of a question is what was heard of its own message, unless that could not be sent
abbrev pub OnlyItsReplyIsTold : Type 0
OnlyItsReplyIsTold =
    (q : Question) (m : AskMachine) (ts : List Turn) (m_then : AskMachine) (e : AskEnd) → HadTurns q m ts m_then
    → m_then.stage ≡ stage.Over e → IsTold q m ts (Some e)

-- these were heard before a moment
abbrev pub AllBefore : ℕ → List Turn → Type 0
AllBefore moment [] = ⊤
AllBefore moment (t ∷ ts) = (t.heard.now < moment) × AllBefore moment ts

-- the message left at this moment, all that was heard since came before a second had passed, and it wakes then
pub record WaitsASecond (m : AskMachine) (ts : List Turn) (m_then : AskMachine) : Type 0 where
  pub since : ℕ
  pub waiting : Waiting m since ts
  pub early : AllBefore (second_after since) waiting.after
  pub wakes : wakes m_then ≡ Some (second_after since)

-- it is over; or something is still to be sent, and it wakes at once; or it waits, and is over within a second
abbrev pub OverWithinASecond : Type 0
OverWithinASecond =
    (q : Question) (m : AskMachine) (ts : List Turn) (m_then : AskMachine) → HadTurns q m ts m_then
    → (is_over m_then ≡ true) ⊎ (wakes m_then ≡ Some 0) ⊎ WaitsASecond m ts m_then
