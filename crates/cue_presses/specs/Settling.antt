-- Which bytes of a device may press.
use Rattle.std.specs.Prelude.{ℕ, ◌+◌, ◌-◌, ◌^◌, Bool, if◌then◌else◌, min, nat_le, nat_lt}
use Rattle.cue_presses.specs.declared.settling.Settling.{Settling}
use Rattle.cue_presses.specs.declared.settling.TheConstants.{AWAY_MS, SETTLE_MS}

-- what is there so long after its opening waited in it
abbrev pub opened : ℕ → Settling
opened now = record { from = min (now + SETTLE_MS) (2 ^ 64 - 1); empty = now }

-- after a second in which no read found it empty, as after an opening
abbrev pub read : Settling → ℕ → Settling
read s now = if nat_lt AWAY_MS (now - s.empty) then opened now else s

-- a read has found nothing
abbrev pub emptied : Settling → ℕ → Settling
emptied s now = record s { empty = now }

-- since the settling began, a read has found nothing
abbrev pub is_over : Settling → Bool
is_over s = nat_le s.from s.empty
