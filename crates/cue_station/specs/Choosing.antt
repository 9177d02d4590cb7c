-- Which attempt GO and CANCEL are for.
use Rattle.std.specs.Prelude.{ℕ, pos, Bool, true, false, ◌&&◌, if◌then◌else◌, List, [], ◌∷◌, Option, None, Some, nat_eq}
use Rattle.std.specs.Prelude.{int_lt}
use Rattle.cue_exchange.specs.Live.{attempt_of_cue}
use Rattle.cue_exchange.specs.declared.attempt.Attempt.{Attempt}
use Rattle.cue_desk.specs.declared.orders.DeskCommand.{DeskCommand}
use Rattle.cue_desk.specs.declared.orders.DeskCommand.TheVariants as order
use Rattle.cue_desk.specs.declared.replying.Replied.{Replied}
use Rattle.cue_desk.specs.declared.replying.Replied.TheVariants as replied
use Rattle.cue_operator.specs.declared.method.CueVerb.{CueVerb}
use Rattle.cue_operator.specs.declared.method.CueVerb.TheVariants as verb
use Rattle.cue_view.specs.declared.button.Button.TheVariants as button
use Rattle.cue_station.specs.declared.heard.Heard.{Heard}
use Rattle.cue_station.specs.declared.heard.Heard.TheVariants as heard
use Rattle.cue_station.specs.declared.heard.Send.{Send}
use Rattle.cue_station.specs.declared.memory.Choice.{Choice}
use Rattle.cue_station.specs.declared.memory.Choice.TheVariants as choice
use Rattle.cue_station.specs.declared.memory.Reading.{Reading}
use Rattle.cue_station.specs.declared.memory.Shown.{Shown}
use Rattle.cue_station.specs.Turns.{Turn}
use Rattle.cue_station.specs.Asking.{heard_presses, is_open_ask, presses_of}
use Rattle.cue_station.specs.Offering.{is_offered, kept_of}
use Rattle.cue_station.specs.Reading.{reading_of}

-- what will come of a STANDBY of ours is not known yet
abbrev pub is_awaited : Choice → Bool
is_awaited (choice.Awaited n c) = true
is_awaited choice.Nothing = false
is_awaited (choice.Attempt q) = false

-- the attempt at the cue, once the copy has one; if the copy of after the answer has none, nothing comes of it
abbrev pub found_by : Option Attempt → Bool → Choice → Choice
found_by (Some a) waits old = choice.Attempt a.seq
found_by None waits old = if waits then old else choice.Nothing

abbrev pub found_in : Option Reading → Bool → ℕ → List ℕ → Choice
found_in None waits n c = choice.Awaited n c
found_in (Some r) waits n c = found_by (attempt_of_cue r.copy.state.live c) waits (choice.Awaited n c)

-- something was refused
abbrev pub is_refusal : Replied → Bool
is_refusal (replied.Reply made known refused code) = int_lt (pos 0) refused
is_refusal (replied.Status u) = false

-- the STANDBY with this ask was refused, or nobody listens
abbrev pub is_refused : ℕ → Heard → Bool
is_refused n (heard.Replied m r) = nat_eq m n && is_refusal r
is_refused n (heard.Nobody m) = nat_eq m n
is_refused n _ = false

-- an awaited attempt is found, or given up
abbrev pub grown : Heard → (ℕ → Bool) → Option Reading → Choice → Choice
grown h waits r choice.Nothing = choice.Nothing
grown h waits r (choice.Attempt q) = choice.Attempt q
grown h waits r (choice.Awaited n c) = if is_refused n h then choice.Nothing else found_in r (waits n) n c

-- a message that was sent: after a go nothing is chosen, after a standby what comes of it
abbrev pub chosen_by_verb : CueVerb → ℕ → List ℕ → Choice → Choice
chosen_by_verb verb.Go n c old = choice.Nothing
chosen_by_verb verb.Standby n c old = choice.Awaited n c
chosen_by_verb _ n c old = old

abbrev pub chosen_by_order : DeskCommand → ℕ → Choice → Choice
chosen_by_order (order.OfCue v c) n old = chosen_by_verb v n c old
chosen_by_order _ n old = old

abbrev pub chosen_by_sending : Option Send → Choice → Choice
chosen_by_sending None old = old
chosen_by_sending (Some s) old = chosen_by_order s.order s.ask old

-- a press chose an attempt that a young view offered
abbrev pub chosen_by_press : Heard → ℕ → List Shown → Choice → Choice
chosen_by_press (heard.Pressed view (button.Choose q)) now views old =
    if is_offered view now (button.Choose q) views then choice.Attempt q else old
chosen_by_press _ now views old = old

-- the press with the ask n is open, once this turn's input was heard
abbrev pub waits_in : Turn → List Turn → ℕ → Bool
waits_in t past n = is_open_ask n (reading_of (t ∷ past)) (heard_presses t past (presses_of past))

-- Nothing at first and after each go; else what a press chose last, or what came of the last STANDBY.
abbrev pub chosen_of : List Turn → Choice
chosen_of [] = choice.Nothing
chosen_of (t ∷ past) =
    chosen_by_sending t.sent
    (chosen_by_press t.input.heard t.input.at (kept_of past)
    (grown t.input.heard (waits_in t past) (reading_of (t ∷ past)) (chosen_of past)))

-- the attempt that is chosen
abbrev pub chosen_number : Choice → Option ℕ
chosen_number choice.Nothing = None
chosen_number (choice.Awaited n c) = None
chosen_number (choice.Attempt q) = Some q
