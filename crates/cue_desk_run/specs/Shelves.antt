-- What stands at a place that has one text.
use Rattle.std.specs.Prelude.{◌≡◌, ℕ, List, [], ◌∷◌, Option, None, Some}
use Rattle.std.specs.Option.{option_map}
use Rattle.cue_kept.specs.Alarms.{Alarms, alarms_of}
use Rattle.cue_kept.specs.Reading.{read}
use Rattle.cue_view.specs.declared.view.Kept.{Kept}

-- this text stood there when the place was read or replaced last; a place that shows nothing promises nothing
abbrev pub Stands : List ℕ → Option (List ℕ) → Type 0
Stands text None = Unit {0}
Stands text (Some stood) = stood ≡ text

-- what a text says of the alarms; an empty one says nothing
abbrev pub said_by : List ℕ → Option Alarms
said_by [] = None
said_by (b ∷ bs) = read (b ∷ bs)

-- the alarms are those of the text that stood there
abbrev pub Says : Option Kept → Option (List ℕ) → Type 0
Says kept None = Unit {0}
Says kept (Some stood) = option_map alarms_of kept ≡ said_by stood
