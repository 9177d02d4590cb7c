-- Helper: what was matched, if it is no line.
use Rattle.std.specs.Prelude.{◌≡◌, ◌⊎◌, ℕ, List, None, codes}
use Rattle.clap.specs.Words.{Row, Text, first_of}
use Rattle.cue_command_line.specs.Lines.{AreTurnsIn, IsPortIn}

-- no folder stands there
abbrev pub LacksDir : List Row → Type 0
LacksDir rows = first_of (codes "DIR") rows ≡ None

-- no port stands there that can be listened on
abbrev pub LacksPort : List Row → Type 0
LacksPort rows = (port : ℕ) → IsPortIn rows port → ⊥

-- no number of turns stands there
abbrev pub LacksTurns : List Row → Type 0
LacksTurns rows = (turns : ℕ) → AreTurnsIn rows turns → ⊥

-- What was matched is no line: it has another name, or lacks what a command of its name has.
pub record IsNoLine (found : Text × List Row) : Type 0 where
  pub form : found.0 ≡ codes "form" → LacksDir found.1
  pub serve : found.0 ≡ codes "serve" → LacksDir found.1 ⊎ LacksPort found.1 ⊎ LacksTurns found.1
  pub show : found.0 ≡ codes "show" → LacksDir found.1
  pub script : found.0 ≡ codes "script" → ⊥
