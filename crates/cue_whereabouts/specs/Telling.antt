-- What the events of a reading tell of the last part of a device.
use Rattle.std.specs.Prelude.{ℕ, Bool, true, not, ◌&&◌, if◌then◌else◌, List, length, Option, None, Some, find}
use Rattle.std.specs.Prelude.{nat_eq, nat_le, nat_lt}
use Rattle.std.specs.List.{fold, list_any}
use Rattle.std.specs.Option.{option_and_then}
use Rattle.cue_show.specs.declared.limits.TheConstants.{MAX_PART_BYTES}
use Rattle.cue_show.specs.declared.part.Part.{Part}
use Rattle.cue_show.specs.Show.{ShowLists, parts_of}
use Rattle.cue_core.specs.Events.{is_cancel_of, is_start_of}
use Rattle.cue_core.specs.declared.event.Event.{Event}
use Rattle.cue_core.specs.declared.event.Event.TheVariants as event
use Rattle.cue_whereabouts.specs.declared.last.End.{End}
use Rattle.cue_whereabouts.specs.declared.last.End.TheVariants.{CarriedOut, Failed}
use Rattle.cue_whereabouts.specs.Ending.{PartEnd}

-- ---- what a cue has a device do

-- bytes that are no more than a part may have
abbrev pub kept_bytes : List ℕ → Option (List ℕ)
kept_bytes bytes = if nat_le (length bytes) MAX_PART_BYTES then Some bytes else None

-- the bytes of the part of the device d; none if there is none for it
abbrev pub bytes_for : ℕ → List Part → Option (List ℕ)
bytes_for d parts = option_and_then (λ p. kept_bytes p.bytes) (find (λ p. nat_eq p.device d) parts)

-- the same in a cue of the stack
abbrev pub bytes_in : ShowLists → ℕ → List ℕ → Option (List ℕ)
bytes_in show d c = option_and_then (bytes_for d) (parts_of show c)

-- ---- what the events tell

-- the cue of a start
abbrev pub started : Event → Option (List ℕ)
started (event.Start p c t) = Some c
started _ = None

-- the cue of the attempt q; none if its start is not among the events
abbrev pub cue_of : ℕ → List Event → Option (List ℕ)
cue_of q events = option_and_then started (find (is_start_of q) events)

-- the attempt q was given up, so nothing moved in it
abbrev pub is_given_up : ℕ → List Event → Bool
is_given_up q events = list_any (is_cancel_of q) events

-- the attempt in which the event ends the part of the device d, and how
abbrev pub ending : List Event → ℕ → Event → Option (ℕ × End)
ending events d (event.Done q e) = if nat_eq e d then Some (q, CarriedOut) else None
ending events d (event.Failed q e) = if nat_eq e d && not (is_given_up q events) then Some (q, Failed) else None
ending events d _ = None

-- the part of the device d that ended so in the attempt q
abbrev pub last_part : ShowLists → List Event → ℕ → ℕ × End → PartEnd
last_part show events d ended =
    record {
      attempt = ended.0;
      end = ended.1;
      cue = cue_of ended.0 events;
      bytes = option_and_then (bytes_in show d) (cue_of ended.0 events);
    }

-- ---- what is known after them

-- the attempt is newer than what is known
abbrev pub is_newer : ℕ → Option PartEnd → Bool
is_newer q None = true
is_newer q (Some last) = nat_lt last.attempt q

-- a newer attempt replaces an older one, and nothing else does
abbrev pub after_ending : ShowLists → List Event → ℕ → Option PartEnd → Option (ℕ × End) → Option PartEnd
after_ending show events d known None = known
after_ending show events d known (Some ended) =
    if is_newer ended.0 known then Some (last_part show events d ended) else known

-- what is known of the device d once one of the events was heard
abbrev pub after_event : ShowLists → List Event → ℕ → Option PartEnd → Event → Option PartEnd
after_event show events d known e = after_ending show events d known (ending events d e)

-- what is known of the device d once all events of a reading were heard
abbrev pub after_reading : ShowLists → List Event → ℕ → Option PartEnd → Option PartEnd
after_reading show events d known = fold (after_event show events d) known events
