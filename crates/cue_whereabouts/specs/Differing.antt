-- Which devices stand elsewhere than the stack supposes, or nobody knows where.
use Rattle.std.specs.Prelude.{ℕ, Bool, true, false, ◌&&◌, ◌||◌, if◌then◌else◌, List, [], Option, None, Some, is_some}
use Rattle.std.specs.List.{filter_map}
use Rattle.std.specs.Map.{keys_of}
use Rattle.std.specs.Option.{option_map_or, option_and_then}
use Rattle.cue_show.specs.Number.{same_text}
use Rattle.cue_exchange.specs.Answers.{answer_passes, is_decided, is_waiting}
use Rattle.cue_exchange.specs.Live.{attempt_of_device}
use Rattle.cue_exchange.specs.declared.attempt.Attempt.{Attempt}
use Rattle.cue_core.specs.State.{ShowState}
use Rattle.cue_whereabouts.specs.Memory.{last_of}
use Rattle.cue_whereabouts.specs.Supposing.{supposed_at}
use Rattle.cue_whereabouts.specs.Telling.{bytes_in}
use Rattle.cue_whereabouts.specs.declared.differing.Difference.{Difference}
use Rattle.cue_whereabouts.specs.declared.last.End.{End}
use Rattle.cue_whereabouts.specs.declared.last.End.TheVariants.{CarriedOut, Failed}
use Rattle.cue_whereabouts.specs.Ending.{PartEnd}
use Rattle.cue_whereabouts.specs.declared.memory.Known.{Known}
use Rattle.cue_whereabouts.specs.declared.supposing.Supposed.{Supposed}

-- the device says that it carried the part out
abbrev pub is_carried_out : End → Bool
is_carried_out CarriedOut = true
is_carried_out Failed = false

-- the bytes are known, and are these
abbrev pub are_bytes : List ℕ → Option (List ℕ) → Bool
are_bytes bytes None = false
are_bytes bytes (Some kept) = same_text kept bytes

-- the device stands as these bytes had it go: they are what it carried out last
abbrev pub stands_as : List ℕ → Option PartEnd → Bool
stands_as bytes None = false
stands_as bytes (Some last) = is_carried_out last.end && are_bytes bytes last.bytes

-- the device d is on its way: its cue was given, and it has not answered
abbrev pub is_on_its_way : ℕ → List Attempt → Bool
is_on_its_way d live =
    option_map_or (λ a. is_decided a.stage && answer_passes is_waiting d a.answers) (attempt_of_device live d) false

-- how the device d differs at the cue c from what is supposed of it
abbrev pub difference_from : ShowState → List ℕ → List Known → ℕ → Supposed → Option Difference
difference_from s c all d supposed =
    if stands_as supposed.bytes (last_of d all) || is_on_its_way d s.live then None
    else Some (record {
      device = d;
      supposed = supposed.cue;
      last = last_of d all;
      is_next = is_some (bytes_in s.show d c);
    })

-- the same; none if nothing is supposed
abbrev pub difference_of : ShowState → List ℕ → List Known → ℕ → Option Difference
difference_of s c all d = option_and_then (difference_from s c all d) (supposed_at c d s.show.cues)

-- the devices that differ, in the order of the table; without a place nothing is supposed
abbrev pub differences_at : ShowState → Option (List ℕ) → List Known → List Difference
differences_at s None all = []
differences_at s (Some c) all = filter_map (difference_of s c all) (keys_of s.show.devices)

abbrev pub differences : ShowState → List Known → List Difference
differences s all = differences_at s s.show.place all

-- something was heard of it, and it does not stand as supposed
abbrev pub is_elsewhere : Difference → Bool
is_elsewhere difference = is_some difference.last
