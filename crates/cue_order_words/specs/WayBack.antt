-- The way back from a move of the place.
use Rattle.std.specs.Prelude.{ℕ, ◌==◌, if◌then◌else◌, List, [], ◌++◌, codes, decimal, Bool, true, false, Option, Some, None}
use Rattle.cue_desk.specs.declared.orders.DeskCommand.{DeskCommand}
use Rattle.cue_desk.specs.declared.orders.DeskCommand.TheVariants as order
use Rattle.cue_desk.specs.declared.ports.TheConstants.{PORT}
use Rattle.cue_operator.specs.declared.method.CueVerb.{CueVerb}
use Rattle.cue_operator.specs.declared.method.CueVerb.TheVariants as verb
use Rattle.cue_order_words.specs.declared.told.Told.{Told}
use Rattle.cue_order_words.specs.declared.told.Told.TheVariants as told
use Rattle.cue_order_words.specs.declared.way_back.WayBack.{WayBack}
use Rattle.cue_order_words.specs.declared.way_back.WayBack.TheVariants as back

abbrev pub is_move_by : CueVerb → Bool
is_move_by verb.Goto = true
is_move_by verb.Standby = false
is_move_by verb.Go = false
is_move_by verb.Cancel = false
is_move_by verb.Remove = false

-- only goto moves the place
abbrev pub is_move : DeskCommand → Bool
is_move (order.OfCue v cue) = is_move_by v
is_move order.Status = false
is_move (order.Release device) = false
is_move (order.RemoveDevice device) = false

-- the way to a place; none leads to where no cue was the place
abbrev pub back_to : Option (List ℕ) → WayBack
back_to (Some cue) = back.To cue
back_to None = back.Nowhere

-- it is told of a move that was made, if the place before it is known
abbrev pub way_back : Told → Option WayBack → Option WayBack
way_back told.Made before = before
way_back _ before = None

-- ---- in words

-- a port that is not the usual one has to be said
abbrev pub port_words : ℕ → List ℕ
port_words port = if port == PORT then [] else codes " --port " ++ decimal port

-- the command that goes back
abbrev pub words_to : List ℕ → ℕ → List ℕ
words_to cue port =
    codes "moved from cue " ++ (cue ++ (codes "; back: cuedesk goto " ++ (cue ++ port_words port)))

abbrev pub words_back : WayBack → ℕ → List ℕ
words_back (back.To cue) port = words_to cue port
words_back back.Nowhere port = codes "before, no cue was the place: no command goes back to that"
