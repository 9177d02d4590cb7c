-- What is sent, and for what.
use Rattle.std.specs.Prelude.{◌≡◌, ℕ, Bool, ◌&&◌, if◌then◌else◌, List, Option, None, Some, IsTrue, [], ◌∷◌, ◌+◌}
use Rattle.std.specs.List.{list_any}
use Rattle.cue_desk.specs.declared.orders.DeskCommand.{DeskCommand}
use Rattle.cue_desk.specs.declared.orders.DeskCommand.TheVariants as order
use Rattle.cue_operator.specs.declared.method.CueVerb.TheVariants as verb
use Rattle.cue_view.specs.declared.button.Button.{Button}
use Rattle.cue_view.specs.declared.button.Button.TheVariants as button
use Rattle.cue_view.specs.declared.view.Unsent.{Unsent}
use Rattle.cue_view.specs.declared.view.Unsent.TheVariants as unsent
use Rattle.cue_station.specs.declared.heard.Heard.{Heard}
use Rattle.cue_station.specs.declared.heard.Heard.TheVariants.{Pressed}
use Rattle.cue_station.specs.declared.heard.Input.{Input}
use Rattle.cue_station.specs.declared.heard.Send.{Send}
use Rattle.cue_station.specs.Turns.{Turn}
use Rattle.cue_station.specs.Asking.{is_tap, newest_of, presses_of}
use Rattle.cue_station.specs.Lighting.{may}
use Rattle.cue_station.specs.Offering.{is_offered, is_recent, kept_of}

-- the message of a button; none if nothing is sent
abbrev pub order_of : Button → Option DeskCommand
order_of (button.Standby c) = Some (order.OfCue verb.Standby c)
order_of (button.Go c q) = Some (order.OfCue verb.Go c)
order_of (button.Cancel c q) = Some (order.OfCue verb.Cancel c)
order_of (button.Release q d) = Some (order.Release d)
order_of (button.MoveTo c) = Some (order.OfCue verb.Goto c)
order_of (button.Choose q) = None
order_of (button.Seen q) = None

-- The press names a view that was shown with this button lit, and was made at most a second before it was heard; and
-- the same button, for the same cue and attempt, may be lit at this moment still.
abbrev pub is_heeded : List Turn → ℕ → ℕ → ℕ → Button → Bool
is_heeded past now wall view b = is_offered view now b (kept_of past) && may past now wall b

-- Why a press is not heeded: it is the second tap of a GO; else no young view has its number; else that view had the
-- button dark; else it may no longer be lit.
abbrev pub refusal_by : Bool → Bool → Bool → Bool → Option Unsent
refusal_by tap recent offered may =
    if offered && may then None else if tap then Some unsent.Again else if offered then Some unsent.Changed
    else if recent then Some unsent.Dark else Some unsent.Old

-- of what was heard a press alone is refused
abbrev pub unsent_by : (ℕ → Button → Option Unsent) → Heard → Option Unsent
unsent_by refusal (Pressed view b) = refusal view b
unsent_by refusal _ = None

-- why the press that was heard is not heeded; none if it is, and if none was heard
abbrev pub unsent_of : List Turn → Input → Option Unsent
unsent_of past i =
    unsent_by
    (λ view b. refusal_by (is_tap i.at b (newest_of (presses_of past)))
    (list_any (is_recent view i.at) (kept_of past)) (is_offered view i.at b (kept_of past))
    (may past i.at i.wall b)) i.heard

-- The message is that of a press that is heeded.
pub record IsOfPress (t : Turn) (past : List Turn) (s : Send) : Type 0 where
  pub view : ℕ
  pub pressed_button : Button
  pub pressed : t.input.heard ≡ Pressed view pressed_button
  pub heeded : IsTrue (is_heeded past t.input.at t.input.wall view pressed_button)
  pub message : order_of pressed_button ≡ Some s.order

-- one more, if a message was sent
abbrev pub ask_after : Option Send → ℕ → ℕ
ask_after None n = n
ask_after (Some s) n = n + 1

-- how many messages were sent: each has an ask, and thus a socket, of its own
abbrev pub asks_of : List Turn → ℕ
asks_of [] = 0
asks_of (t ∷ past) = ask_after t.sent (asks_of past)
