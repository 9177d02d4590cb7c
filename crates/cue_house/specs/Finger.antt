-- From a finger to a machine.
use Rattle.std.specs.Prelude.{◌⊎◌, ℕ, List, [], IsTrue}
use Rattle.std.specs.List.{list_any}
use Rattle.cue_core.specs.Events.{is_go_of}
use Rattle.cue_core.specs.Happenings.{onto}
use Rattle.cue_engine.specs.Runs.{joined_list}
use Rattle.cue_stage.specs.Consent.{IsConsented, OnlyDevicesAnswer}
use Rattle.cue_stage.specs.Laws.{HeardCancel, KeepsEachDecision, WasToGiveUp, WasToMove}
use Rattle.cue_stage.specs.Stage.{Beginning, incidents}
use Rattle.cue_stage.specs.Tasks.{cue_by}
use Rattle.cue_house.specs.Copies.{DesksReadTheStore, WasPressedFor, events_by}
use Rattle.cue_house.specs.House.{Occurrence, Lives, OnlyDesksCommand, stage_of}

-- What an order to move for q rests on, by the batches that the store keeps. Its decision is kept. GO was pressed for
-- the cue with which q started, on a view at most a second old that had GO lit for q as ready, or for an attempt of
-- this cue that ended before q started. If only devices answer, each required device had prepared and said so. No
-- device hears a CANCEL of q, and none is ordered to give it up.
pub record RestsOnAPress (from : Beginning) (house : List Occurrence) (x y : List ℕ) (q : ℕ)
    (keeps : KeepsEachDecision from (stage_of house) x y) : Type 0 where
  pub decided : IsTrue (list_any (is_go_of q) (joined_list keeps.kept))
  pub pressed :
      WasPressedFor (joined_list keeps.kept) q house (cue_by (onto (joined_list keeps.kept) []) q)
  pub consented :
      OnlyDevicesAnswer from (stage_of house) → IsConsented from (stage_of house) (joined_list keeps.kept) q
  pub not_by_halves : (e : ℕ) → HeardCancel from (stage_of house) e q ⊎ WasToGiveUp from (stage_of house) e q → ⊥

-- From a finger to a machine: if only desks command, and read the store as it was, a device is ordered to move for an
-- attempt only with a press of GO for it, by a decision that stays, and, if only devices answer, with the consent of
-- each required device. A go names a cue and no attempt: so one that comes late may give the next attempt of its cue.
abbrev pub FromAFingerToAMachine : Type 0
FromAFingerToAMachine = (from : Beginning) (house : List Occurrence) (x y : List ℕ) (d q : ℕ)
    → (keeps : KeepsEachDecision from (stage_of house) x y) → Lives from house → OnlyDesksCommand house
    → DesksReadTheStore (events_by (incidents (stage_of house)) keeps.kept keeps.prefix) house
    → WasToMove from (stage_of house) d q → RestsOnAPress from house x y q keeps
