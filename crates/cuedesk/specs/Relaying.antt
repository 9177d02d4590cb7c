-- What the relay begins with.
use Rattle.std.specs.Prelude.{◌≡◌, ◌⊎◌, ◌≢◌, List, length, None}
use Rattle.std.specs.List.{flat_map}
use Rattle.cue_desk.specs.declared.ending.Ending.{Ending}
use Rattle.cue_desk.specs.declared.ending.Ending.TheVariants as ending
use Rattle.cue_machine.specs.declared.address.Address.{Address}
use Rattle.cue_relay_machine.specs.Places.{both_addresses}
use Rattle.cue_relay_words.specs.Planning.{lack_in}
use Rattle.cue_relay_words.specs.declared.planning.Plan.{Plan}
use Rattle.cue_relay_words.specs.declared.planning.PlanFault.{PlanFault}
use Rattle.cue_relay_words.specs.declared.planning.PlanFault.TheVariants.{Lacks, Memory}
use Rattle.cue_relay_words.specs.declared.words.Begun.{Begun}
use Rattle.cue_show_file.specs.declared.file.ShowFile.{ShowFile}

-- what the file lacks is refused; without memory the command fails
abbrev pub ending_of : PlanFault → Ending
ending_of (Lacks lack) = ending.Refused
ending_of Memory = ending.Failed

-- the file lacks something, and that is refused; or there is no memory
abbrev pub IsUnplanned : ShowFile → Ending → Type 0
IsUnplanned file e = ((e ≡ ending.Refused) × (lack_in file ≢ None)) ⊎ (e ≡ ending.Failed)

-- what is said of a plan
abbrev pub begun_of : Plan → Begun
begun_of plan = record { controller = plan.controller; stage = plan.stage; count = length plan.routes.items }

-- where the sockets of a plan are: two for each route
abbrev pub addresses_of : Plan → List Address
addresses_of plan = flat_map (both_addresses plan.controller.host plan.stage) plan.routes.items
