-- What a jack in memory shows.
use Rattle.std.specs.Prelude.{List, map, Option, Some, None, if◌then◌else◌}
use Rattle.cue_buttons_run.specs.Telling.{Reading, Told, gave, nothing, opened, reads, silent}
use Rattle.cue_buttons_run.specs.declared.mem.MemCame.{MemCame}
use Rattle.cue_buttons_run.specs.declared.mem.MemCame.TheVariants as mem
use Rattle.cue_buttons_run.specs.declared.mem.MemJack.{MemJack}
use Rattle.cue_buttons_run.specs.declared.mem.MemTold.{MemTold}
use Rattle.cue_buttons_run.specs.declared.mem.MemTold.TheVariants as said

-- a reading as contracts of a jack see it
abbrev pub reading_view : MemCame → Reading
reading_view (mem.Bytes bytes) = gave bytes.items
reading_view mem.Nothing = nothing
reading_view _ = silent

abbrev pub told_view : MemTold → Told
told_view said.Opened = opened
told_view (said.Read came) = reads (reading_view came)

-- all that it told, if it is shown
abbrev pub told_by : MemJack → Option (List Told)
told_by jack = if jack.shows then Some (map told_view jack.told.items) else None
