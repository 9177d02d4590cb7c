-- Two taps of one finger.
use Rattle.std.specs.Prelude.{ℕ, ◌-◌, Bool, false, Option, None, Some, nat_lt}
use Rattle.cue_presses.specs.declared.taps.TheConstants.{TAP_MS}
use Rattle.cue_presses.specs.declared.intent.Intent.{Intent}
use Rattle.cue_presses.specs.declared.intent.Intent.TheVariants as intent

-- a moment that is known, and not so long ago
abbrev pub is_just : Option ℕ → ℕ → Bool
is_just None now = false
is_just (Some last) now = nat_lt (now - last) TAP_MS

-- a GO that names no cue, less than a second after one that was pressed
abbrev pub is_second_tap : Intent → Option ℕ → ℕ → Bool
is_second_tap (intent.Go None) last now = is_just last now
is_second_tap (intent.Go (Some cue)) last now = false
is_second_tap (intent.Standby named) last now = false
is_second_tap intent.Cancel last now = false
