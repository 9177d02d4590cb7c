-- Helper: the area that was read.
use Rattle.cue_log.specs.Area.{Area}
use Rattle.cue_log.specs.declared.reading.Parts.{Parts}

-- the area of the parts in which it was read
abbrev pub parts_area : Parts → Area
parts_area parts = record { generation = parts.generation; snapshot = parts.snapshot.items; payloads = parts.records }
