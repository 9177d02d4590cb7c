-- Helper: at most two events, as a list.
use Rattle.std.specs.Prelude.{List, [], ◌∷◌}
use Rattle.cue_core.specs.declared.event.Event.{Event}
use Rattle.cue_core.specs.declared.events.Held.{Held}
use Rattle.cue_core.specs.declared.events.Held.TheVariants as held

-- the events, in order
abbrev pub events_in : Held → List Event
events_in held.None = []
events_in (held.One a) = a ∷ []
events_in (held.Two a b) = a ∷ b ∷ []
