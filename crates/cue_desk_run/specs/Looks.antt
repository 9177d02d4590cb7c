-- When something is done again, and when the files of the store are looked at.
use Rattle.std.specs.Prelude.{ℕ, Bool, true, false, ◌&&◌, ◌||◌, ◌-◌, if◌then◌else◌, Option, None, Some, nat_le}
use Rattle.cue_view.specs.declared.view.Became.{Became}
use Rattle.cue_view.specs.declared.view.Became.TheVariants as became
use Rattle.cue_view.specs.declared.view.Said.{Said}
use Rattle.cue_view.specs.declared.view.View.{View}
use Rattle.cue_desk_run.specs.declared.clocks.Beat.{Beat}
use Rattle.cue_desk_run.specs.declared.looks.Looks.{Looks}

-- it was not done yet
abbrev pub beat : ℕ → Beat
beat every = record { every = every; last = None }

-- so much time lies between the last time and the moment, or there was none
abbrev pub is_past : ℕ → Option ℕ → ℕ → Bool
is_past every None now = true
is_past every (Some last) now = nat_le every (now - last)

-- it is due
abbrev pub is_beat : Beat → ℕ → Bool
is_beat b now = is_past b.every b.last now

-- what was due counts as done at this moment
abbrev pub beat_after : Beat → ℕ → Beat
beat_after b now = if is_beat b now then record b { last = Some now } else b

-- the store has to say what became of a press
abbrev pub waits : Became → Bool
waits became.Open = true
waits became.Unshown = true
waits _ = false

abbrev pub waits_by : Option Said → Bool
waits_by None = false
waits_by (Some s) = waits s.became

-- what is shown waits for what the store says
abbrev pub waits_for_store : View → Bool
waits_for_store v = v.differs || waits_by v.said

-- no look was made yet: each tenth of a second there is one, and each hundredth while what is shown waits
abbrev pub begun : Looks
begun = record { often = beat 100; soon = beat 10 }

-- the files are looked at ten times a second, and sooner while what is shown waits for what the store says
abbrev pub is_due : Looks → View → ℕ → Bool
is_due l v now = is_beat l.often now || (waits_for_store v && is_beat l.soon now)

-- the look counts as done
abbrev pub after : Looks → View → ℕ → Looks
after l v now =
    if is_beat l.often now then record l { often = beat_after l.often now }
    else if waits_for_store v then record l { soon = beat_after l.soon now } else l
