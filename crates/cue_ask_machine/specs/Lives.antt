-- What a whole life of a question comes to.
use Rattle.std.specs.Prelude.{◌≡◌, ◌≤◌, ◌⊎◌, ℕ, ◌^◌, ◌-◌, Bool, true, false, List, [], ◌∷◌, ◌++◌, Option, Some, None, ⊤}
use Rattle.cue_machine.specs.declared.ears.Input.TheVariants as input
use Rattle.cue_machine.specs.declared.living.Ended.{Ended}
use Rattle.cue_machine.specs.declared.machine.Machine.{Ghosts}
use Rattle.cue_machine.specs.Hearing.{Heard, Told}
use Rattle.cue_machine.specs.Living.{Lived, Turn, all_posted}
use Rattle.cue_machine.specs.Posting.{Given, Posted}
use Rattle.cue_ask_machine.specs.declared.machine.AskMachine.{AskMachine}
use Rattle.cue_ask_machine.specs.declared.question.Question.{Question}
use Rattle.cue_ask_machine.specs.declared.stage.AskEnd.{AskEnd}
use Rattle.cue_ask_machine.specs.declared.stage.AskEnd.TheVariants as end
use Rattle.cue_ask_machine.specs.declared.stage.Stage.{Stage}
use Rattle.cue_ask_machine.specs.declared.stage.Stage.TheVariants as stage
use Rattle.cue_ask_machine.specs.Answers.{answer_to}
use Rattle.cue_ask_machine.specs.Letters.{IsLetterOf}
use Rattle.cue_ask_machine.specs.Naming.{IsUnnamable}
use Rattle.cue_desk.specs.Asks.{IsUnwritable}
use Rattle.cue_desk.specs.Together.{message_with}
use Rattle.cue_ask_machine.specs.Stages.{end_of, second_after}
use Rattle.cue_ask_machine.specs.Steps.{IsNameFor, Steps, after_loss, bytes_of, decides, home, is_over, message_given}
use Rattle.cue_ask_machine.specs.Steps.{sends, text_of, wakes}

-- a question as a machine
abbrev pub ask_machine : Ghosts AskMachine
ask_machine = record { steps = Steps; after_loss = after_loss; wakes = wakes; is_over = is_over }

-- it sends what asks this, with the name of who asks, to this port
pub record IsOf (q : Question) (m : AskMachine) : Type 0 where
  pub letter : IsLetterOf q.order q.others.now m.letter
  pub name : IsNameFor q.order (text_of q.name) (bytes_of m.name)
  pub port : m.port ≡ q.port

-- OSC has no datagram for its message, or none for who asks
abbrev pub IsUnaskable : Question → Type 0
IsUnaskable q = IsUnwritable (message_with q.order q.others.now) ⊎ IsUnnamable (text_of q.name)

-- nothing was done yet
abbrev pub IsNew : AskMachine → Type 0
IsNew m = m.stage ≡ stage.Names

-- ---- what was sent

abbrev pub post : Given → Bool → Posted
post given lost = record { given = given; lost = lost }

-- the name went out once, and may have been lost; nothing went out if there is none
abbrev pub IsNaming : ℕ → Option (List ℕ) → List Posted → Type 0
IsNaming port None ps = ps ≡ []
IsNaming port (Some name) ps = (lost : Bool) × (ps ≡ post (sends port name) lost ∷ [])

-- the message did not go out yet; or it did once; or it was lost, and went out once more
abbrev pub IsAsking : Given → List Posted → Type 0
IsAsking asked ps =
    (ps ≡ []) ⊎ ((lost : Bool) × (ps ≡ post asked lost ∷ []))
    ⊎ ((lost : Bool) × (ps ≡ post asked true ∷ post asked lost ∷ []))

-- All that went out: nothing yet; or the name, and after it the message.
pub record Sent (m : AskMachine) (ps : List Posted) : Type 0 where
  pub said : List Posted
  pub asked : List Posted
  pub all : ps ≡ said ++ asked
  pub names : IsNaming m.port (bytes_of m.name) said
  pub asks : IsAsking (message_given m) asked

abbrev pub IsSent : AskMachine → List Posted → Type 0
IsSent m ps = (ps ≡ []) ⊎ Sent m ps

-- ---- what was told

-- nothing that was heard in these turns decides how it ends
abbrev pub AllUndecided : AskMachine → ℕ → List Turn → Type 0
AllUndecided m since [] = ⊤
AllUndecided m since (t ∷ ts) = (decides m since t.heard ≡ None) × AllUndecided m since ts

-- the message left in one of these turns, at this moment, and nothing that was heard after it decided
pub record Waiting (m : AskMachine) (since : ℕ) (ts : List Turn) : Type 0 where
  pub before : List Turn
  pub asked : Turn
  pub after : List Turn
  pub all : ts ≡ before ++ asked ∷ after
  pub left : asked.posted ≡ post (message_given m) false ∷ []
  pub moment : asked.heard.now ≡ since
  pub undecided : AllUndecided m since after

-- and what was heard in the last turn decided it
pub record Decided (m : AskMachine) (ts : List Turn) (e : AskEnd) : Type 0 where
  pub before : List Turn
  pub last : Turn
  pub all : ts ≡ before ++ last ∷ []
  pub since : ℕ
  pub waited : Waiting m since before
  pub decided : decides m since last.heard ≡ Some e

-- in the last turn the message was lost, and it is not sent again
pub record GivenUp (m : AskMachine) (ts : List Turn) : Type 0 where
  pub before : List Turn
  pub last : Turn
  pub all : ts ≡ before ++ last ∷ []
  pub lost : last.posted ≡ post (message_given m) true ∷ []

-- How a question stands after these turns: it is to be sent; it was sent, and nothing has decided; or it has ended, by
-- the last thing that was heard, or since it could not be sent.
abbrev pub Stands : AskMachine → List Turn → Stage → Type 0
Stands m ts stage.Names = ts ≡ []
Stands m ts (stage.Asks again) = ⊤
Stands m ts (stage.Waits since again) = Waiting m since ts
Stands m ts (stage.Over e) = Decided m ts e ⊎ ((e ≡ end.Lost) × GivenUp m ts)

-- what is heard says this of a message that left at a moment: a reply came at its socket from the controller's port of
-- this machine, and is one to what was asked; nobody listens there; or a second has passed
abbrev pub Says : Question → ℕ → AskEnd → Heard → Type 0
Says q since (end.Replied r) h =
    (h.input ≡ input.Datagram 0 (home q.port)) × (answer_to q.order q.others.now h.bytes ≡ Some r)
Says q since end.Nobody h = h.input ≡ input.Refused 0
Says q since end.Silent h = second_after since ≤ h.now
Says q since end.Lost h = ⊥

-- what was heard last says how it ended, and nothing that was heard before it since the message left decided
pub record ToldBy (q : Question) (m : AskMachine) (ts : List Turn) (e : AskEnd) : Type 0 where
  pub decided : Decided m ts e
  pub says : Says q decided.since e decided.last.heard

-- what is told of a question is what was heard of its own message, unless that could not be sent
abbrev pub IsTold : Question → AskMachine → List Turn → Option AskEnd → Type 0
IsTold q m ts None = ⊤
IsTold q m ts (Some e) = ToldBy q m ts e ⊎ ((e ≡ end.Lost) × GivenUp m ts)

-- ---- lives

-- A whole life of a machine: what was sent, and how its question stands at the end.
pub record Ran (ended : Ended) (m m_then : AskMachine) (told told_then : Option (List Told))
    (left left_then : Option (List Posted)) : Type 0 where
  pub life : Lived ask_machine (2 ^ 64 - 1) ended m m_then told told_then left left_then
  pub sent : IsSent m (all_posted life.lived.taken)
  pub stands : Stands m life.lived.taken m_then.stage

-- A whole life of this question, with what it sends and what it tells.
pub record Asked (q : Question) (found : Option AskEnd) (told told_then : Option (List Told))
    (left left_then : Option (List Posted)) : Type 0 where
  pub m : AskMachine
  pub of : IsOf q m
  pub m_then : AskMachine
  pub ended : Ended
  pub ran : Ran ended m m_then told told_then left left_then
  pub is_end : found ≡ end_of m_then.stage
  pub is_told : IsTold q m ran.life.lived.taken found
