-- Who is late: a silence that is seen, and is too short yet to be an alarm.
use Rattle.std.specs.Prelude.{ℕ, ◌+◌, ◌-◌, nat_le, if◌then◌else◌, Option, None, Some}
use Rattle.cue_view.specs.declared.late.TheConstants.{LATE_MS}
use Rattle.cue_view.specs.declared.view.View.{View}

-- what was last heard at a moment is silent for so long, and is late
abbrev pub late_by : ℕ → Option ℕ → Option ℕ
late_by at None = None
late_by at (Some last) = if nat_le (last + LATE_MS) at then Some (at - last) else None

-- the controller, by the status that was asked last and answered; the relay, by what it has written
abbrev pub serve_late : View → Option ℕ
serve_late v = late_by v.at v.served

abbrev pub relay_late : View → Option ℕ
relay_late v = late_by v.at v.stamped
