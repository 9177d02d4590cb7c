-- How the command `load` ends.
use Rattle.std.specs.Prelude.{Bool, true, false, ◌||◌, if◌then◌else◌, List, [], ◌∷◌, Option, Some, None}
use Rattle.cue_desk.specs.declared.answered.Answered.{Answered}
use Rattle.cue_desk.specs.declared.answered.Answered.TheVariants as answered
use Rattle.cue_desk.specs.declared.ending.Ending.{Ending}
use Rattle.cue_desk.specs.declared.ending.Ending.TheVariants as ending
use Rattle.cue_load_machine.specs.declared.stage.LoadEnd.{LoadEnd}
use Rattle.cue_load_machine.specs.declared.stage.LoadEnd.TheVariants as end

-- what was refused, to what nobody replied, and that what the store had could not be kept: each ends the load, and only
-- a load to which all was replied goes on to be compared
abbrev pub ending_of_machine : Option LoadEnd → Option Ending
ending_of_machine (Some end.Done) = None
ending_of_machine (Some (end.Refused place code)) = Some ending.Refused
ending_of_machine (Some (end.Silent place)) = Some ending.Silent
ending_of_machine (Some (end.Nobody place)) = Some ending.Silent
ending_of_machine (Some end.NotKept) = Some ending.Failed
ending_of_machine None = Some ending.Failed

-- one of these was refused
abbrev pub some_refused : List Answered → Bool
some_refused [] = false
some_refused (answered.Refused code ∷ more) = true
some_refused (answered.Made ∷ more) = some_refused more
some_refused (answered.Known ∷ more) = some_refused more

-- a load that was carried out is done, with status 0, if nothing was refused and the store is what the file says
abbrev pub ending_of : (is_refused differs : Bool) → Option Ending
ending_of is_refused differs = if is_refused || differs then Some ending.Refused else None
