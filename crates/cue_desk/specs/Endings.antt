-- How a command ends that is not done.
use Rattle.std.specs.Prelude.{ℕ}
use Rattle.cue_desk.specs.declared.ending.Ending.{Ending}
use Rattle.cue_desk.specs.declared.ending.Ending.TheVariants as ending

-- 1 if it was refused, 3 if nobody replied or something failed
abbrev pub ending_status : Ending → ℕ
ending_status ending.Refused = 1
ending_status ending.Silent = 3
ending_status ending.Failed = 3
ending_status ending.Unwritten = 3
