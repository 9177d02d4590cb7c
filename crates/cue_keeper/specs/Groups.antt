-- Batches that are accepted together: a stop leaves none of them or all.
use Rattle.std.specs.Prelude.{◌≡◌, ◌≤◌, ℕ, Bool, true, ◌&&◌, List, [], ◌∷◌, length, map, sum_by, nat_le}
use Rattle.std.proofs.Common.{Vec, Global}
use Rattle.cue_log.specs.declared.area.TheConstants.{MAX_PAYLOAD}
use Rattle.cue_core.specs.declared.event.Event.{Event}
use Rattle.cue_core.specs.State.{ShowState}
use Rattle.cue_core.specs.Steps.{are_acceptable, after_events}
use Rattle.cue_records.specs.Batch.{is_batch, batch_text}

-- the batches that have an event: only these are records
abbrev pub with_events : List (List Event) → List (List Event)
with_events [] = []
with_events ([] ∷ batches) = with_events batches
with_events ((e ∷ es) ∷ batches) = (e ∷ es) ∷ with_events batches

-- several of the batches have an event
abbrev pub AreSeveral : List (List Event) → Type 0
AreSeveral batches = 2 ≤ length (with_events batches)

-- the encoding of each of these
abbrev pub records_of : List (List Event) → List (List ℕ)
records_of batches = map batch_text (with_events batches)

-- each batch is acceptable in the state after those before it
abbrev pub are_all_acceptable : ShowState → List (List Event) → Bool
are_all_acceptable s [] = true
are_all_acceptable s (batch ∷ batches) = are_acceptable s batch && are_all_acceptable (after_events s batch) batches

-- a record holds the batch
abbrev pub is_record : List Event → Bool
is_record batch = is_batch batch && nat_le (length (batch_text batch)) MAX_PAYLOAD

-- each batch has no event, or a record holds it
abbrev pub are_records : List (List Event) → Bool
are_records [] = true
are_records ([] ∷ batches) = are_records batches
are_records ((e ∷ es) ∷ batches) = is_record (e ∷ es) && are_records batches

-- batches as the code keeps them
abbrev pub batches_view : List (Vec Event Global) → List (List Event)
batches_view batches = map (λ batch. batch.items) batches

-- Each batch is ready to be accepted: those that have an event are framed, and `bytes` is how long their encodings
-- are together.
pub record IsGroup (batches : List (List Event)) (records : List (List ℕ)) (bytes : ℕ) : Type 0 where
  pub each : are_records batches ≡ true
  pub framed : records ≡ records_of batches
  pub long : bytes ≡ sum_by length records
