-- What is known before anything was heard.
use Rattle.std.specs.Prelude.{ℕ, zero, suc, if◌then◌else◌, List, [], ◌∷◌, ◌++◌, None}
use Rattle.cue_show.specs.DeviceNumber.{is_device}
use Rattle.cue_show.specs.declared.limits.TheConstants.{MAX_DEVICES}
use Rattle.cue_whereabouts.specs.declared.memory.Known.{Known}

-- an entry for the device with the number, of which nothing was heard
abbrev pub entry_of : ℕ → List Known
entry_of n = if is_device n then record { device = n; last = None } ∷ [] else []

-- the entries of the numbers below n, rising
unfoldable pub entries_below : ℕ → List Known
entries_below zero = []
entries_below (suc n) = entries_below n ++ entry_of n

-- an entry for each device, and nothing heard of it
abbrev pub unheard : List Known
unheard = entries_below MAX_DEVICES
