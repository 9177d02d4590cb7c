-- What the program makes of a command line that is none.
use Rattle.std.specs.Prelude.{◌≡◌, ◌⊎◌, Bool, true, false}
use Rattle.clap.specs.declared.error.kind.ErrorKind.{ErrorKind}
use Rattle.clap.specs.declared.error.kind.ErrorKind.TheVariants.{DisplayHelp, DisplayVersion, OutOfMemory}
use Rattle.cue_desk.specs.declared.line.LineFault.{LineFault}
use Rattle.cue_desk.specs.declared.line.LineFault.TheVariants.{Help, Usage, Memory}

-- clap stops for another reason than the help and the version
abbrev pub asks_for_none : ErrorKind → Bool
asks_for_none DisplayHelp = false
asks_for_none DisplayVersion = false
asks_for_none _ = true

-- what the program makes of an error of clap
abbrev pub IsFaultOf : ErrorKind → LineFault → Type 0
IsFaultOf kind (Help text) = (kind ≡ DisplayHelp) ⊎ (kind ≡ DisplayVersion)
IsFaultOf kind (Usage text) = (asks_for_none kind ≡ true) × (kind ≡ OutOfMemory → ⊥)
IsFaultOf kind Memory = Unit {0}

-- it is the help or the version
abbrev pub IsHelp : LineFault → Type 0
IsHelp (Help text) = Unit {0}
IsHelp (Usage text) = ⊥
IsHelp Memory = ⊥

-- the command line is not understood
abbrev pub IsUsage : LineFault → Type 0
IsUsage (Help text) = ⊥
IsUsage (Usage text) = Unit {0}
IsUsage Memory = ⊥
