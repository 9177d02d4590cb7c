-- What callers see of a pair that was opened.
use Rattle.cue_log.specs.Area.{Area}
use Rattle.cue_snap.specs.Observed.{generation_of, first_of, second_of}
use Rattle.cue_snap.specs.declared.opening.Opened2.{Opened2}

-- what was read
abbrev pub live_area_read : {D : Type 0} {disk : _} → Opened2 D disk → Area
live_area_read opened = record {
  generation = generation_of opened.snap;
  snapshot = opened.base;
  payloads = opened.tail;
}

-- the first of the two disks
abbrev pub first_opened : {D : Type 0} {disk : _} → Opened2 D disk → D
first_opened opened = first_of opened.snap

-- the second of the two disks
abbrev pub second_opened : {D : Type 0} {disk : _} → Opened2 D disk → D
second_opened opened = second_of opened.snap
