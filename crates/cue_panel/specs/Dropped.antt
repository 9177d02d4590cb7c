-- What was dropped, and when that is told.
use Rattle.std.specs.Prelude.{ℕ, ◌+◌, ◌-◌, ◌^◌, Bool, true, ◌&&◌, if◌then◌else◌, Option, None, Some, min, nat_le, nat_lt}
use Rattle.cue_panel.specs.declared.dropped.Dropped.{Dropped}
use Rattle.cue_panel.specs.declared.dropped.TheConstants.{FLOOD_MS}
use Rattle.cue_panel.specs.declared.line.Line.{Line}
use Rattle.cue_panel.specs.declared.line.Line.TheVariants as line
use Rattle.cue_panel.specs.declared.taking.Taken.{Taken}
use Rattle.cue_panel.specs.declared.taking.Taken.TheVariants as taken
use Rattle.cue_presses.specs.declared.hand.Struck.{Struck}
use Rattle.cue_presses.specs.declared.hand.Struck.TheVariants as struck

abbrev pub none : Dropped
none = record { waited = 0; flooded = 0; told = None }

-- one more, as far as 64 bits can count
abbrev pub one_more : ℕ → ℕ
one_more n = min (n + 1) (2 ^ 64 - 1)

abbrev pub with_waited : Dropped → Dropped
with_waited d = record d { waited = one_more d.waited }

abbrev pub with_flooded : Dropped → Dropped
with_flooded d = record d { flooded = one_more d.flooded }

-- what waited in the device is counted, and so is what came with more than there are fingers
abbrev pub after_struck : Struck → Dropped → Dropped
after_struck struck.Waited d = with_waited d
after_struck struck.Flooded d = with_flooded d
after_struck _ d = d

abbrev pub after : Taken → Dropped → Dropped
after (taken.Struck s i what) d = after_struck what d
after taken.Flooded d = with_flooded d
after _ d = d

-- ---- when it is told

-- what waited is told once the device has settled
abbrev pub waited_line : Dropped → Bool → Option Line
waited_line d is_settled = if nat_lt 0 d.waited && is_settled then Some (line.Waited d.waited) else None

abbrev pub waited_told : Dropped → Bool → Dropped
waited_told d is_settled = if is_settled then record d { waited = 0 } else d

-- that presses were too many was not told within the last second
abbrev pub is_past : Option ℕ → ℕ → Bool
is_past None at = true
is_past (Some told) at = nat_le FLOOD_MS (at - told)

abbrev pub is_due : Dropped → ℕ → Bool
is_due d at = is_past d.told at

abbrev pub flooded_line : Dropped → ℕ → Option Line
flooded_line d at = if nat_lt 0 d.flooded && is_due d at then Some (line.Flooded d.flooded) else None

abbrev pub flooded_told : Dropped → ℕ → Dropped
flooded_told d at = if nat_lt 0 d.flooded && is_due d at then record d { flooded = 0; told = Some at } else d
