-- When a device is opened, looked at and let go, and what is told of it.
use Rattle.std.specs.Prelude.{◌≡◌, ℕ, ◌+◌, ◌-◌, Bool, true, false, not, ◌&&◌, if◌then◌else◌, List, ◌++◌, codes, ⊤}
use Rattle.std.specs.Prelude.{Option, None, Some, nat_le}
use Rattle.cue_panel.specs.declared.listening.Listening.{Listening}
use Rattle.cue_panel.specs.declared.listening.Notice.{Notice}
use Rattle.cue_panel.specs.declared.listening.Notice.TheVariants as notice
use Rattle.cue_panel.specs.declared.listening.Pace.{Pace}
use Rattle.cue_panel.specs.declared.listening.Silence.{Silence}
use Rattle.cue_panel.specs.declared.listening.Silence.TheVariants as silence
use Rattle.cue_panel.specs.declared.listening.TheConstants.{AGAIN_MS, PIECES, PIECES_THAT_WAITED}

-- how many times it is read in a round
abbrev pub pieces : Bool → ℕ
pieces is_settled = if is_settled then PIECES else PIECES_THAT_WAITED

-- ---- when

abbrev pub is_past : Option ℕ → ℕ → Bool
is_past None now = true
is_past (Some last) now = nat_le AGAIN_MS (now - last)

-- it was not done within the last second
abbrev pub is_due : Pace → ℕ → Bool
is_due p now = is_past p.last now

abbrev pub at : ℕ → Pace
at now = record { last = Some now }

abbrev pub begun : Listening
begun =
    record {
      tries = record { last = None };
      looks = record { last = None };
      is_said = false;
      is_told = false;
    }

-- a device is opened if none is open, once a second at most
abbrev pub opens : Listening → (is_open : Bool) → (now : ℕ) → Bool
opens l is_open now = not is_open && is_due l.tries now

abbrev pub after_try : Listening → (is_open : Bool) → (now : ℕ) → Listening
after_try l is_open now = if opens l is_open now then record l { tries = at now } else l

-- an open one is looked at, once a second at most
abbrev pub looks : Listening → (is_open : Bool) → (now : ℕ) → Bool
looks l is_open now = is_open && is_due l.looks now

abbrev pub after_look : Listening → (is_open : Bool) → (now : ℕ) → Listening
after_look l is_open now = if looks l is_open now then record l { looks = at now } else l

-- what is lost or gone is opened again
abbrev pub is_end : Silence → Bool
is_end silence.Ended = true
is_end silence.Lost = false
is_end silence.Gone = false

-- ---- what is told

-- that it is opened, and that it cannot be, is said once, until it is let go
abbrev pub says_opening : Listening → Bool
says_opening l = not l.is_said

abbrev pub said : Listening → Listening
said l = record l { is_said = true }

abbrev pub says_closed : Listening → Bool
says_closed l = not l.is_told

abbrev pub told : Listening → Listening
told l = record l { is_told = true }

abbrev pub let_go : Listening → Listening
let_go l = record l { is_said = false; is_told = false }

-- what is told of a device that is heard no more, and of what the system says
abbrev pub IsNotice : Silence → (why : List ℕ) → Notice → Type 0
IsNotice silence.Ended why notice.Ended = ⊤
IsNotice silence.Lost why (notice.Lost words) = words.now ≡ why
IsNotice silence.Gone why notice.Gone = ⊤
IsNotice _ why _ = ⊥

abbrev pub notice_text : List ℕ → Notice → List ℕ
notice_text path notice.Opening = codes "opening " ++ path
notice_text path notice.Hearing = codes "hearing " ++ path
notice_text path (notice.Closed why) = path ++ (codes ": " ++ (why.now ++ codes ": it is tried again each second"))
notice_text path notice.Ended = path ++ codes " has ended"
notice_text path (notice.Lost why) = path ++ (codes ": " ++ (why.now ++ codes ": it is opened again each second"))
notice_text path notice.Gone = path ++ codes " is gone: it is opened again each second"
