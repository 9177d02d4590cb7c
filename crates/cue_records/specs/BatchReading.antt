-- Helper: reading a batch of events. The encoding of a batch (`Batch.antt`) is read as the batch by the law
-- `batches_are_read_back`, and nothing else is read, as `read_batch` promises (`found`).
use Rattle.std.specs.Prelude.{ℕ, not, ◌&&◌, ◌==◌, if◌then◌else◌, List, Option, None, Some, length, nat_le}
use Rattle.std.specs.Int.{w16, w64}
use Rattle.cue_show.specs.declared.part.Part.{Part}
use Rattle.cue_exchange.specs.declared.attempt.Reason.{Reason}
use Rattle.cue_core.specs.declared.event.Event.{Event}
use Rattle.cue_core.specs.declared.event.Event.TheVariants as event
use Rattle.cue_records.specs.declared.limits.TheConstants.{MAX_EVENTS}
use Rattle.cue_records.specs.declared.batch.kind.Kind.{Kind}
use Rattle.cue_records.specs.declared.batch.kind.Kind.TheVariants as kind
use Rattle.cue_records.specs.declared.parts_form.PartsForm.TheVariants.{Plain, Flagged}
use Rattle.cue_records.specs.Fields.{are_required}
use Rattle.cue_records.specs.Reading.{◌>>=◌, Reads, where_it, where_at, made_at, as_at, both_at, counted_at, byte_at}
use Rattle.cue_records.specs.Reading.{number_at, device_at, sequence_at, cue_at, entry_at, new_cue_at, reason_at}

-- the kind with the number
abbrev pub kind_of : ℕ → Option Kind
kind_of n =
    if n == 1 then Some kind.Device else if n == 2 then Some kind.NoDevice else if n == 3 then Some kind.Cue
    else if n == 4 then Some kind.NoCue else if n == 5 then Some kind.Place else if n == 6 then Some kind.Start
    else if n == 7 then Some kind.Ready else if n == 8 then Some kind.Go else if n == 9 then Some kind.Done
    else if n == 10 then Some kind.Cancel else if n == 11 then Some kind.LetGo else if n == 12 then Some kind.Failed
    else if n == 13 then Some kind.MixedCue else if n == 14 then Some kind.Excuse else None

-- a kind
unfoldable pub kind_at : Reads Kind
kind_at = made_at kind_of byte_at

-- a number, a cue and a time
unfoldable pub start_at : Reads (ℕ × (List ℕ × ℕ))
start_at = both_at sequence_at (both_at cue_at (number_at w64))

-- a number and a device
unfoldable pub answer_at : Reads (ℕ × ℕ)
answer_at = both_at sequence_at device_at

-- a number and a reason
unfoldable pub cancel_at : Reads (ℕ × Reason)
cancel_at = both_at sequence_at reason_at

-- a cue and its parts, at least one of them optional
unfoldable pub mixed_cue_at : Reads (List ℕ × List Part)
mixed_cue_at = where_at (λ x. not (are_required x.1)) (new_cue_at Flagged)

-- what stands after a kind
unfoldable pub body_at : Kind → Reads Event
body_at kind.Device = as_at (λ x. event.Device x.0 x.1) entry_at
body_at kind.NoDevice = as_at (λ d. event.NoDevice d) device_at
body_at kind.Cue = as_at (λ x. event.Cue x.0 x.1) (new_cue_at Plain)
body_at kind.NoCue = as_at (λ c. event.NoCue c) cue_at
body_at kind.Place = as_at (λ c. event.Place c) cue_at
body_at kind.Start = as_at (λ x. event.Start x.0 x.1.0 x.1.1) start_at
body_at kind.Ready = as_at (λ x. event.Ready x.0 x.1) answer_at
body_at kind.Go = as_at (λ q. event.Go q) sequence_at
body_at kind.Done = as_at (λ x. event.Done x.0 x.1) answer_at
body_at kind.Cancel = as_at (λ x. event.Cancel x.0 x.1) cancel_at
body_at kind.LetGo = as_at (λ x. event.LetGo x.0 x.1) answer_at
body_at kind.Failed = as_at (λ x. event.Failed x.0 x.1) answer_at
body_at kind.MixedCue = as_at (λ x. event.Cue x.0 x.1) mixed_cue_at
body_at kind.Excuse = as_at (λ x. event.Excuse x.0 x.1) answer_at

-- an event
unfoldable pub event_at : Reads Event
event_at bytes = kind_at bytes >>= λ k. body_at k.0 k.1

-- a count of events, 1 to 4,096
unfoldable pub event_count_at : Reads ℕ
event_count_at = where_at (λ n. nat_le 1 n && nat_le n MAX_EVENTS) (number_at w16)

-- a count, and so many events, which are all of the bytes
unfoldable pub batch_of : List ℕ → Option (List Event)
batch_of bytes = counted_at event_count_at event_at bytes >>= λ es. where_it (length es.1 == 0) es.0
