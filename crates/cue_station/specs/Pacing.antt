-- When a question for the status is due.
use Rattle.std.specs.Prelude.{ℕ, Bool, true, false, ◌&&◌, ◌||◌, ◌+◌, Option, None, Some, nat_le, nat_lt}
use Rattle.cue_station.specs.declared.limits.TheConstants.{ASK_AGAIN_MS, ASK_MS}
use Rattle.cue_station.specs.declared.memory.Notes.{Notes}
use Rattle.cue_station.specs.declared.memory.Pace.{Pace}
use Rattle.cue_station.specs.declared.memory.Pending.{Pending}
use Rattle.cue_station.specs.declared.memory.Question.{Question}

-- how long after a question the next one is due, by whether a status came to it, or nobody listened
abbrev pub wait_by : Bool → ℕ
wait_by true = ASK_MS
wait_by false = ASK_AGAIN_MS

-- the last press was sent before the moment
abbrev pub is_after_press : Option Pending → ℕ → Bool
is_after_press None now = true
is_after_press (Some p) now = nat_lt p.at now

-- the status is wanted at once, after the last press, and the newest question was answered
abbrev pub is_at_once : Notes → Pace → ℕ → Bool
is_at_once n p now = p.is_wanted && (p.is_answered && is_after_press n.press now)

-- none was ever asked, or the newest one was half a second ago
abbrev pub is_overdue : Option Question → ℕ → Bool
is_overdue None now = true
is_overdue (Some q) now = nat_le (q.at + ASK_AGAIN_MS) now

-- a question is due, by the newest one that was sent
abbrev pub is_due_after : Option Question → Notes → Pace → ℕ → Bool
is_due_after None n p now = true
is_due_after (Some q) n p now = (is_at_once n p now && nat_lt q.at now) || nat_le (q.at + wait_by p.is_answered) now

abbrev pub is_due : Notes → Pace → ℕ → Bool
is_due n p now = is_due_after n.question n p now
