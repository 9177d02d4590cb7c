-- Whether the controller was held up.
use Rattle.std.specs.Prelude.{ℕ, ◌+◌, ◌-◌, nat_lt, Option, Some, None, if◌then◌else◌}
use Rattle.cue_evening.specs.declared.holding.TheConstants.{LONGEST}

-- so long was there no look, if it was longer than a second
abbrev pub held_up : ℕ → ℕ → Option ℕ
held_up before now = if nat_lt (before + LONGEST) now then Some (now - before) else None
