-- What the encodings come to.
use Rattle.std.specs.Prelude.{◌≡◌, ◌≤◌, ℕ, List, Some, length, IsTrue}
use Rattle.cue_core.specs.declared.event.Event.{Event}
use Rattle.cue_core.specs.State.{ShowState, is_state}
use Rattle.cue_core.specs.Steps.{are_acceptable}
use Rattle.std.specs.List.{list_all}
use Rattle.cue_records.specs.Batch.{batch_text, is_batch, is_event}
use Rattle.cue_records.specs.BatchReading.{batch_of}
use Rattle.cue_records.specs.State.{IsStateText}
use Rattle.cue_records.specs.StateReading.{state_of}
use Rattle.cue_records.specs.declared.limits.TheConstants.{MAX_EVENTS}
use Rattle.cue_records.specs.declared.limits.TheConstants.{OLD_MAX_CUES, MAX_STATE_BYTES}
use Rattle.cue_records.specs.declared.state.TheConstants.{VERSION, OLD_VERSION}

-- the encoding of a batch reads back as the batch
abbrev pub BatchesAreReadBack : Type 0
BatchesAreReadBack = (events : List Event) → IsTrue (is_batch events) → batch_of (batch_text events) ≡ Some events

-- batches with one encoding are one batch
abbrev pub BatchTextsDiffer : Type 0
BatchTextsDiffer =
    (one other : List Event) → IsTrue (is_batch one) → IsTrue (is_batch other) → batch_text one ≡ batch_text other
    → one ≡ other

-- what may happen to a state, event after event, is within the ranges
abbrev pub AcceptableEventsFit : Type 0
AcceptableEventsFit =
    (s : ShowState) (events : List Event) → IsTrue (is_state s) → IsTrue (are_acceptable s events)
    → IsTrue (list_all is_event events)

-- each encoding of a state reads back as the state
abbrev pub StatesAreReadBack : Type 0
StatesAreReadBack =
    (bytes : List ℕ) (s : ShowState) → IsTrue (is_state s) → IsStateText bytes s → state_of bytes ≡ Some s

-- states with one encoding are one state
abbrev pub StateTextsDiffer : Type 0
StateTextsDiffer =
    (bytes : List ℕ) (one other : ShowState) → IsTrue (is_state one) → IsTrue (is_state other) → IsStateText bytes one
    → IsStateText bytes other → one ≡ other

-- no encoding of a state is longer than the most that the limits of its fields allow
abbrev pub StateTextsAreBounded : Type 0
StateTextsAreBounded =
    (bytes : List ℕ) (s : ShowState) → IsTrue (is_state s) → IsStateText bytes s → length bytes ≤ MAX_STATE_BYTES

-- the limits as numbers: the most events of a batch, the version of a state's encoding, the older one with its most
-- cues, and the most bytes of a state's encoding
abbrev pub LimitsOfTexts : Type 0
LimitsOfTexts =
    (MAX_EVENTS ≡ 4096) × (VERSION ≡ 2) × (OLD_VERSION ≡ 1) × (OLD_MAX_CUES ≡ 256) × (MAX_STATE_BYTES ≡ 592607)
