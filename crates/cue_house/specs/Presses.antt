-- Presses of GO, and the views on which it was lit.
use Rattle.std.specs.Prelude.{◌≡◌, ◌⊎◌, ◌≤◌, ◌+◌, ℕ, List, [], ◌∷◌, ◌++◌, Some, IsTrue}
use Rattle.cue_exchange.specs.declared.attempt.Attempt.{Attempt}
use Rattle.cue_exchange.specs.Live.{attempt_of}
use Rattle.cue_exchange.specs.Steps.{can_go_now}
use Rattle.cue_core.specs.Happenings.{onto}
use Rattle.cue_engine.specs.Runs.{joined_list}
use Rattle.cue_view.specs.declared.button.Button.TheVariants as button
use Rattle.cue_station.specs.declared.heard.Heard.TheVariants.{Pressed}
use Rattle.cue_station.specs.declared.limits.TheConstants.{PRESS_MS}
use Rattle.cue_station.specs.declared.memory.Reading.{Reading}
use Rattle.cue_station.specs.Offering.{is_lit}
use Rattle.cue_station.specs.Reading.{reading_of}
use Rattle.cue_station.specs.Turns.{Turn}
use Rattle.cue_stage.specs.Laws.{KeepsEachDecision, WasToMove}
use Rattle.cue_stage.specs.Stage.{Beginning}
use Rattle.cue_stage.specs.Tasks.{cue_by}
use Rattle.cue_house.specs.House.{Occurrence, on_stage, at_desk, Lives, OnlyDesksCommand, stage_of, turns_of}

-- ---- what a person pressed

-- In the newest copy of the store that the desk had read by these turns, the attempt p of the cue was ready: it was
-- prepared, and each of its devices could go.
pub record WasReady (turns : List Turn) (cue : List ℕ) (p : ℕ) : Type 0 where
  pub reading : Reading
  pub newest : reading_of turns ≡ Some reading
  pub attempt : Attempt
  pub found : attempt_of reading.copy.state.live p ≡ Some attempt
  pub of_cue : attempt.cue ≡ cue
  pub ready : IsTrue (can_go_now attempt)

-- One of these turns showed the view with this number, at most a second before the moment, with GO lit for the attempt
-- p of the cue, which was ready.
pub record WasLit (turns : List Turn) (number now : ℕ) (cue : List ℕ) (p : ℕ) : Type 0 where
  pub later : List Turn
  pub turn : Turn
  pub before : List Turn
  pub split : turns ≡ later ++ turn ∷ before
  pub numbered : turn.view.number ≡ number
  pub young : now ≤ turn.view.at + PRESS_MS
  pub lit : IsTrue (is_lit (button.Go cue p) turn.view.lit.items)
  pub ready : WasReady (turn ∷ before) cue p

-- In this turn, after those, GO was pressed for an attempt of the cue, on a young view that had it lit; and the attempt
-- was ready in the newest copy still.
pub record IsPressOfGo (t : Turn) (past : List Turn) (cue : List ℕ) : Type 0 where
  pub attempt : ℕ
  pub view : ℕ
  pub pressed : t.input.heard ≡ Pressed view (button.Go cue attempt)
  pub lit : WasLit past view t.input.at cue attempt
  pub still : WasReady past cue attempt

-- by now some desk had a press of GO for the cue
abbrev pub WasPressed : List Occurrence → List ℕ → Type 0
WasPressed [] cue = ⊥
WasPressed (on_stage h ∷ past) cue = WasPressed past cue
WasPressed (at_desk n t ∷ past) cue = IsPressOfGo t (turns_of n past) cue ⊎ WasPressed past cue

-- ---- from a finger to a machine

-- A motion was pressed for: if only desks command, a device is ordered to move for an attempt only after GO was pressed
-- for the cue with which it started, on a view at most a second old that had GO lit for an attempt of this cue that was
-- ready. The list may end with the order itself, with which nothing is pressed or taken: so the press came before it.
abbrev pub AMotionWasPressed : Type 0
AMotionWasPressed = (from : Beginning) (house : List Occurrence) (x y : List ℕ) (d q : ℕ)
    → (keeps : KeepsEachDecision from (stage_of house) x y) → Lives from house → OnlyDesksCommand house
    → WasToMove from (stage_of house) d q → WasPressed house (cue_by (onto (joined_list keeps.kept) []) q)
