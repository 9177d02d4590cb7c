-- How a command line ends: what is printed if it was carried out.
use Rattle.std.specs.Prelude.{◌≡◌, ℕ, ◌≤◌, List, [], ◌∷◌, ◌++◌, codes, decimal, Option, Some}
use Rattle.std.specs.Prelude.{None, IfSome}
use Rattle.std.specs.Io.KnownBytes.{Appends}
use Rattle.clap.specs.Words.{Row, Text, fault_of, subcommand_of}
use Rattle.cue_core.specs.State.{ShowState, empty_state}
use Rattle.cue_disk.specs.declared.disk.Disk.{Ghosts}
use Rattle.cue_engine.specs.declared.engine.Engine.{Engine}
use Rattle.cue_keeper.specs.Stands.{Stands}
use Rattle.cue_command_line.specs.declared.words.Line.{Line}
use Rattle.cue_command_line.specs.declared.words.Line.TheVariants.{Form, Serve, Show, Script}
use Rattle.cue_command_line.specs.Lines.{IsLineOf, cuectl_app}
use Rattle.cue_run.specs.declared.groups.TheConstants.{MAX_TOGETHER}
use Rattle.cue_run.specs.declared.turns.Ended.{Ended}
use Rattle.cue_run.specs.Running.{Ran}
use Rattle.cue_run.specs.Through.{RunsThrough}
use Rattle.cue_script.specs.Script.{HasRun}
use Rattle.cue_words.specs.ShowText.{show_text}

-- what `form` prints
abbrev pub formed_text : List ℕ
formed_text = codes "formed" ++ (10 ∷ [])

-- what `serve` prints: how many inputs were taken, and how many sends were refused
abbrev pub turns_text : ℕ → ℕ → List ℕ
turns_text turns unsent = codes "turns " ++ (decimal turns ++ (codes " unsent " ++ (decimal unsent ++ (10 ∷ []))))

-- the most bytes of a datagram that a show reads: more than the longest one has, so that a longer one is seen to be so
abbrev pub most_read : ℕ
most_read = 4100

-- A run of at most so many inputs is reported.
pub record IsRunTold (most : ℕ) (old new : Option (List ℕ)) : Type 0 where
  pub turns : ℕ
  pub unsent : ℕ
  pub at_most : turns ≤ most
  pub printed : Appends old new (turns_text turns unsent)

-- This engine's show was served: a run of at most so many inputs, in groups, ended without a fault, and is reported. What
-- a socket gave and sent is in no clause.
pub record HasServed {D : Type 0} {disk : Ghosts D} (most : ℕ) (engine : Engine D disk) (old new : Option (List ℕ))
    : Type 0 where
  pub ended : Ended
  pub left : Engine D disk
  pub ran : Ran most_read MAX_TOGETHER most ended engine left None None None None
  pub through : RunsThrough most_read ended.turns engine left None None None None
  pub well : ended.fault ≡ None
  pub printed : Appends old new (turns_text ended.turns ended.unsent)

-- A state is printed.
pub record IsStateTold (old new : Option (List ℕ)) : Type 0 where
  pub state : ShowState
  pub printed : Appends old new (show_text state)

-- A state is printed that the two stand for.
pub record IsStateShown (x y : List ℕ) (old new : Option (List ℕ)) : Type 0 where
  pub state : ShowState
  pub stand : Stands x y state
  pub printed : Appends old new (show_text state)

-- How a command ends: what is printed if its status is 0, and for a script all that is written. The text is what the
-- reader has.
abbrev pub EndsSo : Line → (status : ℕ) → (text old new : Option (List ℕ)) → Type 0
EndsSo (Form dir) status text old new = status ≡ 0 → Appends old new formed_text
EndsSo (Serve dir port turns) status text old new = status ≡ 0 → IsRunTold turns old new
EndsSo (Show dir) status text old new = status ≡ 0 → IsStateTold old new
EndsSo Script status text old new = IfSome text (λ bytes. HasRun empty_state bytes status old new)

-- The words are a command that clap takes, and it ended so.
pub record HasEnded (words : List Text) (status : ℕ) (text old new : Option (List ℕ)) : Type 0 where
  pub taken : fault_of cuectl_app words ≡ []
  pub line : Line
  pub named : IsLineOf (subcommand_of cuectl_app words) line
  pub ends : EndsSo line status text old new

-- the words name the command `script`
abbrev pub NamesScript : Option (Text × List Row) → Type 0
NamesScript (Some found) = found.0 ≡ codes "script"
NamesScript None = ⊥
