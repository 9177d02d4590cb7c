-- What is known of each device.
use Rattle.std.specs.Prelude.{ℕ, if◌then◌else◌, List, map, Option, None, Some, find, nat_eq, nat_le}
use Rattle.std.specs.Option.{option_and_then}
use Rattle.cue_show.specs.Show.{ShowLists}
use Rattle.cue_core.specs.declared.event.Event.{Event}
use Rattle.cue_whereabouts.specs.Telling.{after_reading}
use Rattle.cue_whereabouts.specs.Ending.{PartEnd}
use Rattle.cue_whereabouts.specs.declared.memory.Known.{Known}

-- the last part of the device d; none if nothing was heard of it
abbrev pub last_of : ℕ → List Known → Option PartEnd
last_of d all = option_and_then (λ k. k.last) (find (λ k. nat_eq k.device d) all)

-- what is known of the device once a reading was heard
abbrev pub known_after : ShowLists → List Event → Known → Known
known_after show events k = record { device = k.device; last = after_reading show events k.device k.last }

-- the same of all
abbrev pub heard : ShowLists → List Event → List Known → List Known
heard show events all = map (known_after show events) all

-- what a store does not know whose last attempt is this one: it is of another store
abbrev pub unless_after : ℕ → Option PartEnd → Option PartEnd
unless_after q None = None
unless_after q (Some last) = if nat_le last.attempt q then Some last else None

-- the same of the device
abbrev pub known_until : ℕ → Known → Known
known_until q k = record { device = k.device; last = unless_after q k.last }

-- the same of all
abbrev pub forgotten_after : ℕ → List Known → List Known
forgotten_after q all = map (known_until q) all
