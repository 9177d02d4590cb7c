-- Of a decision that the store keeps some datagram asked for the go.
use Rattle.std.specs.Prelude.{◌≡◌, ◌⊎◌, ℕ, List, [], ◌∷◌, IsTrue}
use Rattle.std.specs.List.{Contains, list_any}
use Rattle.cue_core.specs.declared.event.Event.{Event}
use Rattle.cue_core.specs.Events.{is_go_of}
use Rattle.cue_core.specs.Happenings.{onto}
use Rattle.cue_core.specs.State.{empty_state}
use Rattle.cue_engine.specs.Given.{Input}
use Rattle.cue_engine.specs.Headline.{AreKept}
use Rattle.cue_engine.specs.Incidents.{committed, stopped_in_commit}
use Rattle.cue_engine.specs.Runs.{joined_list}
use Rattle.cue_stage.specs.Laws.{KeepsEachDecision, WasToMove}
use Rattle.cue_stage.specs.Stage.{Beginning, Happening, meets, incidents}
use Rattle.cue_stage.specs.Tasks.{cue_by}
use Rattle.cue_house.specs.Asking.{AsksForGo, IsGivenAsAsked}

-- one of the inputs asks for a go of the cue
pub record OneAsks (inputs : List (ℕ × Input)) (cue : List ℕ) : Type 0 where
  pub input : ℕ × Input
  pub there : Contains inputs input
  pub asks : AsksForGo input.0 input.1 cue

-- What happens brings a go of the cue to the controller: in a commit that is acknowledged, or in one that is cut off.
abbrev pub BringsGo : Happening → List ℕ → Type 0
BringsGo (meets (committed inputs)) cue = OneAsks inputs cue
BringsGo (meets (stopped_in_commit inputs n one other)) cue = OneAsks inputs cue
BringsGo _ cue = ⊥

-- by now something of what happened brought a go of the cue
abbrev pub WasAsked : List Happening → List ℕ → Type 0
WasAsked [] cue = ⊥
WasAsked (h ∷ past) cue = BringsGo h cue ⊎ WasAsked past cue

-- By these events q was given, and it was ready then, at the cue with which it started. A go of that cue was asked.
pub record WasGivenAsAsked (past : List Happening) (es : List Event) (q : ℕ) : Type 0 where
  pub given : IsGivenAsAsked empty_state es q (WasAsked past)
  pub of_start : given.cue ≡ cue_by (onto es []) q

-- A decision was asked for: whatever happens on a stage, each Go that its store keeps came of a datagram that asked for
-- a go of the cue with which the attempt started.
abbrev pub ADecisionWasAsked : Type 0
ADecisionWasAsked = (past : List Happening) (kept : List (List Event)) (q : ℕ)
    → AreKept empty_state (incidents past) kept → IsTrue (list_any (is_go_of q) (joined_list kept))
    → WasGivenAsAsked past (joined_list kept) q

-- A motion was asked for: a device is ordered to move for an attempt only after a datagram asked for a go of its cue.
abbrev pub AMotionWasAsked : Type 0
AMotionWasAsked = (from : Beginning) (past : List Happening) (x y : List ℕ) (d q : ℕ)
    → (keeps : KeepsEachDecision from past x y) → WasToMove from past d q
    → WasGivenAsAsked past (joined_list keeps.kept) q
