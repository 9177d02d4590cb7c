-- How a command ends whose plan of a rehearsal is none.
use Rattle.cue_desk.specs.declared.ending.Ending.{Ending}
use Rattle.cue_desk.specs.declared.ending.Ending.TheVariants as ending
use Rattle.cue_rehearsal.specs.declared.plan.PlanFault.{PlanFault}
use Rattle.cue_rehearsal.specs.declared.plan.PlanFault.TheVariants.{Memory}

-- without memory it fails; any other fault is the file's
abbrev pub ending_of : PlanFault → Ending
ending_of Memory = ending.Failed
ending_of _ = ending.Refused
