-- What desks read of the store; and so for which attempt a GO was pressed.
use Rattle.std.specs.Prelude.{◌≡◌, ◌⊎◌, ◌≤◌, ℕ, zero, suc, List, [], ◌∷◌, ◌++◌, length, None, IsTrue}
use Rattle.std.specs.List.{list_any}
use Rattle.std.proofs.Common.{inl, inr}
use Rattle.cue_exchange.specs.Live.{attempt_of}
use Rattle.cue_core.specs.declared.event.Event.{Event}
use Rattle.cue_core.specs.declared.event.Event.TheVariants.{Start}
use Rattle.cue_core.specs.Events.{is_start_of}
use Rattle.cue_core.specs.State.{ShowState, empty_state}
use Rattle.cue_core.specs.Steps.{after_events}
use Rattle.cue_keeper.specs.Stands.{folded_all}
use Rattle.cue_engine.specs.Headline.{AreKept, batches_of}
use Rattle.cue_engine.specs.Incidents.{Incident}
use Rattle.cue_engine.specs.Runs.{joined_list}
use Rattle.cue_station.specs.declared.heard.Heard.{Heard}
use Rattle.cue_station.specs.declared.heard.Heard.TheVariants.{Copied}
use Rattle.cue_stage.specs.Stage.{incidents}
use Rattle.cue_house.specs.House.{Occurrence, on_stage, at_desk, stage_of, turns_of}
use Rattle.cue_house.specs.Presses.{IsPressOfGo}

-- ---- what desks read

-- of the batches that are kept, those of the first n incidents
abbrev pub kept_by : ℕ → (s : ShowState) (is : List Incident) (kept : List (List Event)) → AreKept s is kept
    → List (List Event)
kept_by zero s is kept are = []
kept_by (suc n) s [] kept are = []
kept_by (suc n) s (i ∷ is) kept (inl whole) =
    batches_of s i ++ kept_by n (folded_all s (batches_of s i)) is whole.0 whole.1.1
kept_by (suc n) s (i ∷ is) kept (inr cut) = kept_by n s is kept cut.1

-- the events that the store keeps of its first n incidents
abbrev pub events_by : (is : List Incident) (kept : List (List Event)) → AreKept empty_state is kept → ℕ → List Event
events_by is kept are n = joined_list (kept_by n empty_state is kept are)

-- What a desk heard is no copy, or a copy of the store as it was after some of the incidents that it had met by then:
-- the events up to there make its state.
abbrev pub IsOfStore : (ℕ → List Event) → ℕ → Heard → Type 0
IsOfStore events met (Copied c) = (n : ℕ) × (n ≤ met) × (c.state ≡ after_events empty_state (events n))
IsOfStore events met _ = Unit {0}

-- Each copy that a desk has read is of the store as it was at a moment until then, and of what the store keeps: no
-- power that was lost took back what a desk had read.
abbrev pub DesksReadTheStore : (ℕ → List Event) → List Occurrence → Type 0
DesksReadTheStore events [] = Unit {0}
DesksReadTheStore events (on_stage h ∷ past) = DesksReadTheStore events past
DesksReadTheStore events (at_desk n t ∷ past) =
    IsOfStore events (length (incidents (stage_of past))) t.input.heard × DesksReadTheStore events past

-- ---- for which attempt

-- By these events p ended before q started: it had started by then, and is not live any more once q has.
pub record EndedBefore (es : List Event) (p q : ℕ) : Type 0 where
  pub before : List Event
  pub cue : List ℕ
  pub deadline : ℕ
  pub later : List Event
  pub split : es ≡ before ++ Start q cue deadline ∷ later
  pub started : IsTrue (list_any (is_start_of p) before)
  pub gone : attempt_of (after_events empty_state (before ++ Start q cue deadline ∷ [])).live p ≡ None

-- a GO that was pressed for p is one for q: q is it, or p ended before q started
abbrev pub IsFor : List Event → ℕ → ℕ → Type 0
IsFor es p q = (p ≡ q) ⊎ EndedBefore es p q

-- by now some desk had a press of GO for the cue, for q or for an attempt that ended before q started
abbrev pub WasPressedFor : List Event → ℕ → List Occurrence → List ℕ → Type 0
WasPressedFor es q [] cue = ⊥
WasPressedFor es q (on_stage h ∷ past) cue = WasPressedFor es q past cue
WasPressedFor es q (at_desk n t ∷ past) cue =
    ((press : IsPressOfGo t (turns_of n past) cue) × IsFor es press.attempt q) ⊎ WasPressedFor es q past cue
