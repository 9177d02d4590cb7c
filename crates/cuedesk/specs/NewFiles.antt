-- The command `new`: how it ends, and what it says.
use Rattle.std.specs.Prelude.{ℕ, List, ◌++◌, codes}
use Rattle.std.specs.declared.io.ErrorKind.{ErrorKind}
use Rattle.std.specs.declared.io.ErrorKind.TheVariants as error
use Rattle.cue_desk.specs.declared.ending.Ending.{Ending}
use Rattle.cue_desk.specs.declared.ending.Ending.TheVariants as ending

-- a file that is there is not written over, which is no failure of the machine
abbrev pub unmade : ErrorKind → Ending
unmade error.AlreadyExists = ending.Refused
unmade _ = ending.Failed

-- what to do next
abbrev pub made_words : List ℕ → List ℕ
made_words path =
    path ++ (codes " is written. Change it to your show, then look at it: cuedesk check " ++ (path ++ codes "\n"))
