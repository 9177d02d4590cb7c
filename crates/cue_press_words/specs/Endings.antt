-- How a command ends that pressed a button.
use Rattle.std.specs.Prelude.{Option, None, Some}
use Rattle.cue_desk.specs.declared.ending.Ending.{Ending}
use Rattle.cue_desk.specs.declared.ending.Ending.TheVariants as ending
use Rattle.cue_view.specs.declared.view.Became.{Became}
use Rattle.cue_view.specs.declared.view.Became.TheVariants as became

-- done only if the store shows that it was carried out, or was so already
abbrev pub ending_by : Became → Option Ending
ending_by became.Made = None
ending_by became.Known = None
ending_by became.Carried = None
ending_by became.Over = None
ending_by (became.Refused code) = Some ending.Refused
ending_by (became.Partly code) = Some ending.Refused
ending_by became.Nobody = Some ending.Silent
ending_by became.Open = Some ending.Silent
ending_by became.Unshown = Some ending.Silent
ending_by became.Lost = Some ending.Silent
ending_by became.Unknown = Some ending.Silent
