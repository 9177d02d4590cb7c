-- A whole evening: what was heard, one thing after the other, and the step that was made of each.
use Rattle.std.specs.Prelude.{◌≡◌, ℕ, List, [], ◌∷◌, length, take}
use Rattle.cue_station.specs.declared.heard.Input.{Input}
use Rattle.cue_station.specs.declared.station.Station.{Station}
use Rattle.cue_station.specs.declared.station.Step.{Step}
use Rattle.cue_station.specs.Turns.{Turn}
use Rattle.cue_station.specs.Laws.{KeepsLaw}
use Rattle.cue_station.specs.Memory.{IsAfter, turn_of}

-- the turns of what was heard, each with its step, after those of before
abbrev pub turns_with : List Turn → List Input → List Step → List Turn
turns_with past [] steps = past
turns_with past (i ∷ more) [] = past
turns_with past (i ∷ more) (s ∷ steps) = turns_with (turn_of i s ∷ past) more steps

-- Each thing that was heard has its step; with these turns the evening keeps the law, and the machine remembers it.
pub record IsPlayed (past : List Turn) (heard : List Input) (steps : List Step) (s : Station) : Type 0 where
  pub each : length steps ≡ length heard
  pub law : KeepsLaw (turns_with past heard steps)
  pub after : IsAfter (turns_with past heard steps) s

-- The same, whatever kept the law before.
abbrev pub Plays : Station → List Input → List Step → Station → Type 0
Plays old heard steps new = (past : List Turn) → KeepsLaw past → IsAfter past old → IsPlayed past heard steps new

-- The machine stands after the first of what was to be heard, and after nothing else.
abbrev pub Stops : Station → List Input → Station → Type 0
Stops old heard new = (n : ℕ) × (steps : List Step) × Plays old (take n heard) steps new
