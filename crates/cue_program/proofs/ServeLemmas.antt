-- What is told of a show that was served.
use Rattle.std.proofs.Common.{ℕ, List, Option, None, ◌≡◌}
use Rattle.std.specs.Prelude.{OnOk, Result, Ok, Err}
use Rattle.std.specs.Io.KnownBytes.{Appends}
use Rattle.cue_disk.specs.declared.disk.Disk.{Ghosts}
use Rattle.cue_engine.specs.declared.engine.Engine.{Engine}
use Rattle.cue_run.specs.declared.groups.TheConstants.{MAX_TOGETHER}
use Rattle.cue_run.specs.declared.turns.Ended.{Ended}
use Rattle.cue_run.specs.Running.{Ran}
use Rattle.cue_run.specs.Through.{RunsThrough}
use Rattle.cue_program.specs.declared.program.fault.ProgramFault.{ProgramFault}
use Rattle.cue_program.specs.Performing.{HasServed, IsRunTold, most_read, turns_text}

-- a run that was told as it ended was served
pub has_served : {T : Type 0} {D : Type 0} {disk : Ghosts D} (r : Result T ProgramFault) (most : ℕ) (ended : Ended)
    (engine left : Engine D disk) (old new : Option (List ℕ))
    → Ran most_read MAX_TOGETHER most ended engine left None None None None
    → RunsThrough most_read ended.turns engine left None None None None
    → OnOk r (ended.fault ≡ None)
    → OnOk r (Appends old new (turns_text ended.turns ended.unsent))
    → OnOk r (HasServed most engine old new)
has_served (Ok done) most ended engine left old new ran through well printed = record {
  ended = ended;
  left = left;
  ran = ran;
  through = through;
  well = well;
  printed = printed;
}
has_served (Err why) most ended engine left old new ran through well printed = well

-- what was served is reported
pub is_run_told : {T : Type 0} {D : Type 0} {disk : Ghosts D} (r : Result T ProgramFault) (most : ℕ) (engine : Engine D disk)
    (old new : Option (List ℕ))
    → OnOk r (HasServed most engine old new)
    → OnOk r (IsRunTold most old new)
is_run_told (Ok done) most engine old new served = record {
  turns = served.ended.turns;
  unsent = served.ended.unsent;
  at_most = served.ran.at_most;
  printed = served.printed;
}
is_run_told (Err why) most engine old new served = served
