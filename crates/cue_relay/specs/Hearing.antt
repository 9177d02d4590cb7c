-- When a device was heard, what it has not answered, and what a stage manager calls silent: a device that was ordered
-- to stand by or to let go, and for five seconds has answered nothing. One that moves is never silent.
use Rattle.std.specs.Prelude.{ℕ, ◌-◌, min, Bool, true, false, not, ◌&&◌, nat_eq, nat_le, if◌then◌else◌, Option}
use Rattle.std.specs.Prelude.{None, Some}
use Rattle.cue_device.specs.declared.words.Answer.{Answer}
use Rattle.cue_device.specs.Hearing.{answered_for}
use Rattle.cue_relay.specs.declared.hearing.Contact.{Contact}
use Rattle.cue_relay.specs.declared.hearing.News.{News}
use Rattle.cue_relay.specs.declared.hearing.News.TheVariants.{FirstHeard, HeardAgain, Silent}
use Rattle.cue_relay.specs.declared.hearing.Pending.{Pending}
use Rattle.cue_relay.specs.declared.hearing.TheConstants.{SILENCE}
use Rattle.cue_relay.specs.declared.messages.Message.{Message}
use Rattle.cue_relay.specs.declared.messages.Message.TheVariants as says
use Rattle.cue_relay.specs.declared.status.Ordered.{Ordered}
use Rattle.cue_relay.specs.declared.status.Ordered.TheVariants.{Standby, Go, Cancel}
use Rattle.cue_relay.specs.Motions.{is_go, is_late, motion_after_answer, motion_after_order}

-- the answer is due at once; that of a motion comes at its end
abbrev pub is_answer_due : Ordered → Bool
is_answer_due Standby = true
is_answer_due Go = false
is_answer_due Cancel = true

-- ---- orders

-- it is the same order
abbrev pub is_same_order : Ordered → Ordered → Bool
is_same_order Standby Standby = true
is_same_order Go Go = true
is_same_order Cancel Cancel = true
is_same_order _ _ = false

-- since when a device says nothing to an order: a copy is as old as the first one
abbrev pub since : Option Pending → Ordered → ℕ → ℕ → ℕ
since None order seq now = now
since (Some p) order seq now = if is_same_order p.order order && nat_eq p.seq seq then min p.since now else now

-- what is pending once an order came: that order, and no earlier one
abbrev pub now_pending : Option Pending → Ordered → ℕ → ℕ → Pending
now_pending pending order seq now = record { order = order; seq = seq; since = since pending order seq now }

-- one that is ordered to move is not silent
abbrev pub ordered : Contact → Ordered → ℕ → ℕ → Contact
ordered c order seq now = record {
  heard = c.heard;
  pending = Some (now_pending c.pending order seq now);
  motion = motion_after_order c.motion order seq;
  silent = c.silent && is_answer_due order;
}

-- a late copy of a GO changes nothing: it is answered once more
abbrev pub after_order : Contact → Ordered → ℕ → ℕ → Contact
after_order c order seq now = if is_late c.motion order seq then c else ordered c order seq now

-- ---- answers

-- what is pending still: not the order for the attempt that is answered for
abbrev pub left_pending : Option Pending → ℕ → ℕ → Option Pending
left_pending None seq now = None
left_pending (Some p) seq now =
    if nat_eq p.seq seq then None else Some (record { order = p.order; seq = p.seq; since = now })

-- the GO of this attempt is its last order, and has no answer
abbrev pub is_going : Option Pending → ℕ → Bool
is_going None seq = false
is_going (Some p) seq = is_go p.order && nat_eq p.seq seq

abbrev pub after_answer : Contact → Answer → ℕ → Contact
after_answer c a now = record {
  heard = Some now;
  pending = left_pending c.pending (answered_for a) now;
  motion = motion_after_answer (is_going c.pending (answered_for a)) c.motion a;
  silent = false;
}

-- the first time, and where it was said to be silent
abbrev pub told_of_answer : Contact → Option News
told_of_answer c = first c.heard c.silent
  where
    first : Option ℕ → Bool → Option News
    first None silent = Some FirstHeard
    first (Some heard) true = Some HeardAgain
    first (Some heard) false = None

-- ---- what went on

-- a reply of the controller changes nothing
abbrev pub after_message : Contact → Message → ℕ → Contact
after_message c (says.Order order seq) now = after_order c order seq now
after_message c says.Reply now = c
after_message c (says.Answer a) now = after_answer c a now

abbrev pub told_of_message : Contact → Message → Option News
told_of_message c (says.Order order seq) = None
told_of_message c says.Reply = None
told_of_message c (says.Answer a) = told_of_answer c

-- ---- time

-- it has said nothing for five seconds, although its answer is due
abbrev pub is_overdue : Pending → ℕ → Bool
is_overdue p now = is_answer_due p.order && (nat_le p.since now && nat_le SILENCE (now - p.since))

-- something is overdue
abbrev pub is_any_overdue : Option Pending → ℕ → Bool
is_any_overdue None now = false
is_any_overdue (Some p) now = is_overdue p now

-- it falls silent if something is overdue, once
abbrev pub falls_silent : Contact → ℕ → Bool
falls_silent c now = not c.silent && is_any_overdue c.pending now

abbrev pub after_time : Contact → ℕ → Contact
after_time c now = if falls_silent c now then record c { silent = true } else c

abbrev pub told_of_time : Contact → ℕ → Option News
told_of_time c now = if falls_silent c now then Some Silent else None
