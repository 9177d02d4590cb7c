-- The way back, after a press that moved the place.
use Rattle.std.specs.Prelude.{ℕ, not, ◌&&◌, if◌then◌else◌, List, [], ◌∷◌, Option, None, Some}
use Rattle.cue_show.specs.Number.{same_text}
use Rattle.cue_operator.specs.declared.method.CueVerb.{CueVerb}
use Rattle.cue_operator.specs.declared.method.CueVerb.TheVariants as verb
use Rattle.cue_desk.specs.declared.orders.DeskCommand.{DeskCommand}
use Rattle.cue_desk.specs.declared.orders.DeskCommand.TheVariants as order
use Rattle.cue_station.specs.declared.heard.Send.{Send}
use Rattle.cue_station.specs.declared.memory.Moved.{Moved}
use Rattle.cue_station.specs.declared.memory.Reading.{Reading}
use Rattle.cue_station.specs.Reading.{reading_of}
use Rattle.cue_station.specs.Turns.{Turn}

-- the place of the newest copy
abbrev pub place_by : Option Reading → Option (List ℕ)
place_by None = None
place_by (Some r) = r.copy.state.show.place

-- from the place to the cue, if there is a place
abbrev pub moved_from : Option (List ℕ) → List ℕ → Option Moved
moved_from None c = None
moved_from (Some p) c = Some (record { from = p; to = c })

-- a message that asks something of a cue: that it moves, or else that no move is the last press
abbrev pub moved_by_verb : CueVerb → Option (List ℕ) → List ℕ → Option Moved
moved_by_verb verb.Goto place c = moved_from place c
moved_by_verb v place c = None

-- a question for the status changes nothing
abbrev pub moved_by_order : DeskCommand → Option (List ℕ) → Option Moved → Option Moved
moved_by_order order.Status place old = old
moved_by_order (order.OfCue v c) place old = moved_by_verb v place c
moved_by_order (order.Release d) place old = None
moved_by_order (order.RemoveDevice d) place old = None

abbrev pub moved_by : Option Send → Option (List ℕ) → Option Moved → Option Moved
moved_by None place old = old
moved_by (Some s) place old = moved_by_order s.order place old

-- from where and to where the last press moved the place, if it was a move
abbrev pub moved_of : List Turn → Option Moved
moved_of [] = None
moved_of (t ∷ past) = moved_by t.sent (place_by (reading_of (t ∷ past))) (moved_of past)

-- where it came from, as long as the place is where that move left it
abbrev pub back_from : Moved → List ℕ → Option (List ℕ)
back_from m p = if same_text m.to p && not (same_text m.from m.to) then Some m.from else None

abbrev pub back_by : Option Moved → Option (List ℕ) → Option (List ℕ)
back_by (Some m) (Some p) = back_from m p
back_by _ _ = None
