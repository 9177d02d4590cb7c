-- Helper: which attempt each device is in.
use Rattle.std.specs.Prelude.{◌≡◌, ℕ, ◌≤◌, List, slice_index}
use Rattle.std.specs.Option.{option_map_or}
use Rattle.cue_show.specs.declared.limits.TheConstants.{MAX_DEVICE_NUMBER}
use Rattle.cue_exchange.specs.declared.attempt.Attempt.{Attempt}
use Rattle.cue_exchange.specs.Live.{attempt_of_device}

-- the number of the attempt that the device is in; 0 if it is in none
abbrev pub holder : List Attempt → ℕ → ℕ
holder live d = option_map_or (λ a. a.seq) (attempt_of_device live d) 0

-- the table has this of each device
abbrev pub AreHolders : List ℕ → List Attempt → Type 0
AreHolders table live = (d : ℕ) → d ≤ MAX_DEVICE_NUMBER → slice_index table d ≡ holder live d
