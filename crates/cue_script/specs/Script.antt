-- A script: what is written for what happens in it, and how it ends.
use Rattle.std.specs.Prelude.{◌≡◌, ℕ, ◌≤◌, ◌<◌, true, List, [], ◌∷◌, ◌++◌, length, map}
use Rattle.std.specs.Prelude.{codes, decimal, Option, Some}
use Rattle.std.specs.Prelude.{None}
use Rattle.std.specs.Io.KnownBytes.{Appends}
use Rattle.std.specs.List.{flat_map}
use Rattle.hex.specs.Hex.{encode_lower}
use Rattle.cue_core.specs.State.{ShowState}
use Rattle.cue_outbox.specs.Sending.{datagrams}
use Rattle.cue_engine.specs.Runs.{Happening, run}
use Rattle.cue_script.specs.declared.entry.TheConstants.{MAX_SCRIPT}
use Rattle.cue_script.specs.declared.ending.Ending.{Ending}
use Rattle.cue_script.specs.declared.ending.Ending.TheVariants.{Done, BadLine, BadInput, Failed, Stopped}
use Rattle.cue_script.specs.Endings.{can_come, status_of, ending_line}
use Rattle.cue_script.specs.ScriptLines.{lines_of, happening_in}

-- a datagram that is sent, as a line `> PORT HEX` in lower case
abbrev pub line_of : ℕ × List ℕ → List ℕ
line_of sent = codes "> " ++ (decimal sent.0 ++ (32 ∷ encode_lower sent.1 ++ (10 ∷ [])))

abbrev pub printed_lines : List (ℕ × List ℕ) → List ℕ
printed_lines sent = flat_map line_of sent

-- what is written for what happens, from this state on: a line for each datagram that is sent
unfoldable pub output : ShowState → List Happening → List ℕ
output first hs = printed_lines (datagrams (run first hs).sends)

-- The first lines of a text stand for what happened, and the others are left; what is written is the output, and after
-- it this last line.
pub record Ran (first : ShowState) (text : List ℕ) (left : List (List ℕ)) (last : List ℕ)
    (old new : Option (List ℕ)) : Type 0 where
  pub happened : List Happening
  pub lines : List (List ℕ)
  pub all : lines_of text ≡ lines ++ left
  pub each : map happening_in lines ≡ map Some happened
  pub short : length text ≤ MAX_SCRIPT
  pub wrote : Appends old new (output first happened ++ last)

-- The lines before one of no form were run.
pub record RanToBadLine (first : ShowState) (text last : List ℕ) (old new : Option (List ℕ)) : Type 0 where
  pub bad : List ℕ
  pub others : List (List ℕ)
  pub no_form : happening_in bad ≡ None
  pub ran : Ran first text (bad ∷ others) last old new

-- what is written of a text if a script ends so, its last line given: nothing is said if a call of the reader
-- or the writer failed
abbrev pub Wrote : Ending → ShowState → List ℕ → List ℕ → Option (List ℕ) → Option (List ℕ) → Type 0
Wrote Done first text last old new = Ran first text [] last old new
Wrote BadLine first text last old new = RanToBadLine first text last old new
Wrote BadInput first text last old new = (MAX_SCRIPT < length text) × Appends old new last
Wrote (Failed failure) first text last old new =
    (can_come failure ≡ true) × ((left : List (List ℕ)) × Ran first text left last old new)
Wrote (Stopped failure) first text last old new = Unit {0}

-- A script was run from this state on, and ended with this status.
pub record HasRun (first : ShowState) (text : List ℕ) (status : ℕ) (old new : Option (List ℕ)) : Type 0 where
  pub ending : Ending
  pub is : status ≡ status_of ending
  pub wrote : Wrote ending first text (ending_line ending) old new
