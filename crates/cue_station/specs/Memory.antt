-- What the machine keeps is what the evening says.
use Rattle.std.specs.Prelude.{◌≡◌, ℕ, Bool, true, false, List, ◌∷◌, ◌++◌, Option, None, Some, length}
use Rattle.std.specs.Prelude.{filter}
use Rattle.std.specs.Option.{option_map_or, option_to_list}
use Rattle.cue_view.specs.declared.button.Button.{Button}
use Rattle.cue_view.specs.declared.button.Button.TheVariants as button
use Rattle.cue_station.specs.declared.heard.Input.{Input}
use Rattle.cue_station.specs.declared.memory.Notes.{Notes}
use Rattle.cue_station.specs.declared.memory.Pending.{Pending}
use Rattle.cue_station.specs.declared.memory.Reading.{Reading}
use Rattle.cue_station.specs.declared.memory.Relayed.{Relayed}
use Rattle.cue_station.specs.declared.memory.Seen.{Seen}
use Rattle.cue_station.specs.declared.memory.Shown.{Shown}
use Rattle.cue_station.specs.declared.station.Station.{Station}
use Rattle.cue_station.specs.declared.station.Step.{Step}
use Rattle.cue_view.specs.declared.view.Told.{Told}
use Rattle.cue_station.specs.Turns.{Turn}
use Rattle.cue_station.specs.Alarms.{acknowledged_of, differs_since, nobody_of, trouble_of}
use Rattle.cue_station.specs.Asking.{if_open, is_open, newest_of, presses_of, second_of}
use Rattle.cue_station.specs.Choosing.{chosen_of}
use Rattle.cue_station.specs.Keeping.{failed_of}
use Rattle.cue_station.specs.Laws.{Keeps}
use Rattle.cue_station.specs.Network.{relayed_of}
use Rattle.cue_station.specs.Moving.{moved_of}
use Rattle.cue_station.specs.Offering.{kept_of}
use Rattle.cue_station.specs.Pressing.{asks_of}
use Rattle.cue_station.specs.Reading.{answered_of, question_of, reading_of, seen_since}
use Rattle.cue_station.specs.Showing.{given_in, given_since, since_in}

-- of the newest press and the one beside it, those that are open
abbrev pub open_in : Option Reading → Option Pending → Option Pending → List Pending
open_in r press beside = option_to_list (if_open r press) ++ option_to_list beside

-- it is a cancel
abbrev pub is_cancel : Button → Bool
is_cancel (button.Cancel c q) = true
is_cancel _ = false

-- the newest press is a cancel, if another one is open beside it
abbrev pub is_beside : Option Pending → Option Pending → Bool
is_beside press None = true
is_beside press (Some p) = option_map_or (λ (n : Pending). is_cancel n.button) press false

-- What is kept after an evening: the notes, the copy of the store, the relay, the attempts that are seen, what went
-- wrong, the views.
pub record IsKept (turns : List Turn) (n : Notes) (copied : Option Reading) (relayed : Option Relayed)
    (attempts : List Seen) (failures : List Told) (newest : List Shown) : Type 0 where
  pub number : n.number ≡ length turns
  pub asks : n.next_ask ≡ asks_of turns
  pub reading : copied ≡ reading_of turns
  pub answered : n.answered ≡ answered_of turns
  pub question : n.question ≡ question_of turns
  pub nobody : n.nobody ≡ nobody_of turns
  pub trouble : n.trouble ≡ trouble_of turns
  pub differs : n.differs ≡ differs_since turns
  pub failed : failures ≡ failed_of turns
  pub acknowledged : n.acknowledged ≡ acknowledged_of turns
  pub relay : relayed ≡ relayed_of turns
  pub since : (q : ℕ) → since_in attempts q ≡ seen_since q turns
  pub given : (q : ℕ) → given_in attempts q ≡ given_since q turns
  pub choice : n.choice ≡ chosen_of turns
  pub moved : n.moved ≡ moved_of turns
  pub views : newest ≡ kept_of turns
  pub press : n.press ≡ newest_of (presses_of turns)
  pub before : n.before ≡ second_of (presses_of turns)
  pub opened : open_in (reading_of turns) n.press n.beside ≡ filter (is_open (reading_of turns)) (presses_of turns)
  pub beside : is_beside n.press n.beside ≡ true

-- The machine after an evening.
abbrev pub IsAfter : List Turn → Station → Type 0
IsAfter turns s = IsKept turns s.notes s.reading s.relay s.seen.items s.failed.items s.views.items

-- the turn that a step makes
abbrev pub turn_of : Input → Step → Turn
turn_of i step = record { input = i; view = step.view; sent = step.send }

-- The contract of a step: whatever came before, the turn that it makes keeps the law, and the machine remembers it.
abbrev pub StepKeeps : Station → Input → Station → Step → Type 0
StepKeeps old i new step =
    (past : List Turn) → IsAfter past old → Keeps (turn_of i step) past × IsAfter (turn_of i step ∷ past) new
