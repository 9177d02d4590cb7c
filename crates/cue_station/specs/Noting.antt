-- What the machine makes of its notes. Each field follows the evening, as `IsAfter` says.
use Rattle.std.specs.Prelude.{◌+◌, ℕ, Bool, true, false, not, ◌&&◌, ◌||◌, if◌then◌else◌, List, [], ◌∷◌}
use Rattle.std.specs.Prelude.{Option, None, Some, is_none}
use Rattle.std.specs.Option.{option_map}
use Rattle.cue_desk.specs.declared.orders.DeskCommand.{DeskCommand}
use Rattle.cue_desk.specs.declared.orders.DeskCommand.TheVariants as order
use Rattle.cue_view.specs.declared.button.Button.{Button}
use Rattle.cue_station.specs.declared.heard.Heard.{Heard}
use Rattle.cue_station.specs.declared.heard.Heard.TheVariants as heard
use Rattle.cue_station.specs.declared.heard.Send.{Send}
use Rattle.cue_station.specs.declared.lighting.Footing.{Footing}
use Rattle.cue_station.specs.declared.memory.Answered.{Answered}
use Rattle.cue_station.specs.declared.memory.Notes.{Notes}
use Rattle.cue_station.specs.declared.memory.Pending.{Pending}
use Rattle.cue_station.specs.declared.memory.Question.{Question}
use Rattle.cue_station.specs.declared.memory.Reading.{Reading}
use Rattle.cue_station.specs.declared.memory.Shown.{Shown}
use Rattle.cue_station.specs.Alarms.{acknowledged_by, differs_by, lasting, nobody_by, stands_by}
use Rattle.cue_station.specs.Alarms.{trouble_with}
use Rattle.cue_station.specs.Asking.{first_of, followed, going_by, if_open, sent_press}
use Rattle.cue_station.specs.Choosing.{chosen_by_press, chosen_by_sending, chosen_number, grown}
use Rattle.cue_station.specs.Moving.{moved_by, place_by}
use Rattle.cue_station.specs.Opening.{has_ask, is_some_final}
use Rattle.cue_station.specs.Pressing.{ask_after, order_of}
use Rattle.cue_station.specs.Reading.{answered_with, question_with}

-- ---- once something was heard: h, at the moment, with r as the newest copy then

-- what is known of the controller, and since when that is not of the store that was copied
abbrev pub with_answer : Heard → ℕ → Option Reading → Option Answered → Notes → Notes
with_answer h at r a n =
    record n {
      answered = a;
      nobody = nobody_by (option_map (λ (q : Question). q.ask) n.question) h n.nobody;
      trouble = trouble_with h n.trouble;
      differs = lasting (differs_by at a r) at n.differs;
    }

-- what became of the presses
abbrev pub with_presses : Heard → ℕ → Option Reading → Notes → Notes
with_presses h at r n =
    record n {
      press = option_map (followed h at n.answered r) n.press;
      beside = if_open r (option_map (followed h at n.answered r) n.beside);
      before = option_map (followed h at n.answered r) n.before;
    }

-- the press with the ask k is open, of those that are kept
abbrev pub waits_by : Option Reading → Notes → ℕ → Bool
waits_by r n k = has_ask k (if_open r n.press) || has_ask k n.beside

-- the choice, and the failures that were seen
abbrev pub with_choice : Heard → ℕ → Option Reading → List Shown → Notes → Notes
with_choice h at r views n =
    record n {
      choice = chosen_by_press h at views (grown h (waits_by r n) r n.choice);
      acknowledged = acknowledged_by h at views n.acknowledged;
    }

abbrev pub notes_heard : Heard → ℕ → Option Reading → List Shown → Notes → Notes
notes_heard h at r views n =
    with_choice h at r views
    (with_presses h at r (with_answer h at r (answered_with h at n.question n.answered) n))

-- ---- what a lit button rests on

abbrev pub footing_by : Notes → Option Reading → ℕ → ℕ → Footing
footing_by n r now wall =
    record {
      at = now;
      wall = wall;
      stands = stands_by now n.trouble n.answered r;
      chosen = chosen_number n.choice;
      going = going_by (if_open r n.press);
      is_quiet = is_none (if_open r n.press) && is_none n.beside;
      is_calm = not (is_some_final (if_open r n.press)) && not (is_some_final n.beside);
    }

-- ---- once a message was sent

-- the order of a press that is heeded
abbrev pub order_by : Heard → (ℕ → Button → Bool) → Option DeskCommand
order_by (heard.Pressed view b) is_heeded = if is_heeded view b then order_of b else None
order_by _ is_heeded = None

-- the message: that of a press, else a question for the status, if one is due
abbrev pub send_by : Option DeskCommand → Bool → ℕ → Option Send
send_by (Some o) due n = Some (record { ask = n; order = o })
send_by None true n = Some (record { ask = n; order = order.Status })
send_by None false n = None

-- the press that was sent is the newest
abbrev pub press_after : List Pending → Option Pending → Option Pending
press_after [] press = press
press_after (p ∷ ps) press = Some p

-- and the one that was the newest is before it
abbrev pub before_after : List Pending → Option Pending → Option Pending → Option Pending
before_after [] press before = before
before_after (p ∷ ps) press before = press_after ps press

-- and beside it, if that is open
abbrev pub beside_after : Option Reading → List Pending → Option Pending → Option Pending → Option Pending
beside_after r [] press beside = beside
beside_after r (p ∷ ps) press beside = first_of (if_open r press) beside

abbrev pub with_press : Option Reading → List Pending → Notes → Notes
with_press r ps n =
    record n {
      press = press_after ps n.press;
      beside = beside_after r ps n.press n.beside;
      before = before_after ps n.press n.before;
    }

-- the notes, with the numbers of the next view and of the next ask
abbrev pub notes_sent : Heard → ℕ → Option Reading → Option Send → Notes → Notes
notes_sent h at r send n =
    record n {
      number = n.number + 1;
      next_ask = ask_after send n.next_ask;
      question = question_with send at n.question;
      choice = chosen_by_sending send n.choice;
      moved = moved_by send (place_by r) n.moved;
      press = press_after (sent_press h at r send) n.press;
      beside = beside_after r (sent_press h at r send) n.press n.beside;
      before = before_after (sent_press h at r send) n.press n.before;
    }
