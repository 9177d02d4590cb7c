-- When each device of a relay was heard, in words.
use Rattle.std.specs.Prelude.{ℕ, ◌-◌, max, Bool, true, false, not, List, [], ◌++◌, ◌/◌, codes, Option, None, Some}
use Rattle.std.specs.Prelude.{if◌then◌else◌}
use Rattle.std.specs.Fmt.{decimal}
use Rattle.cue_relay.specs.declared.motion.Motion.{Motion}
use Rattle.cue_relay.specs.declared.motion.Motion.TheVariants as motion
use Rattle.cue_relay.specs.declared.status.Ordered.{Ordered}
use Rattle.cue_relay.specs.declared.status.Ordered.TheVariants as ordered
use Rattle.cue_view.specs.declared.view.Contacted.{Contacted}
use Rattle.cue_view.specs.declared.view.LastHeard.{LastHeard}
use Rattle.cue_view.specs.declared.view.LastHeard.TheVariants as heard
use Rattle.cue_board.specs.declared.network.TheConstants.{APART, DEVICE}

-- when it was heard
abbrev pub when : LastHeard → List ℕ
when heard.Never = codes "not heard since the relay started"
when (heard.Ago millis) = codes "heard " ++ (decimal (millis / 1000) ++ codes " s ago")
when heard.Unknown = codes "heard at a time that is not known"

-- which order it was sent and has not answered
abbrev pub pending : Option Ordered → List ℕ
pending None = []
pending (Some ordered.Standby) = codes "STANDBY sent, "
pending (Some ordered.Go) = codes "GO sent, "
pending (Some ordered.Cancel) = codes "CANCEL sent, "

abbrev pub unanswered : Contacted → List ℕ
unanswered c = if c.silent then codes "silent, " else pending c.ordered

-- it was ordered to go, and that is its last order
abbrev pub is_ordered_to_go : Option Ordered → Bool
is_ordered_to_go (Some ordered.Go) = true
is_ordered_to_go _ = false

-- it may still move, by a GO that was not its last order
abbrev pub is_left_moving : Motion → Option Ordered → Bool
is_left_moving (motion.Moving seq) order = not (is_ordered_to_go order)
is_left_moving _ order = false

abbrev pub may_move : Contacted → List ℕ
may_move c = if is_left_moving c.motion c.ordered then codes "may still move, " else []

-- and when it was heard
abbrev pub contact_words : Contacted → List ℕ
contact_words c = may_move c ++ (unanswered c ++ when c.heard)

-- a device with these words
abbrev pub device_words : Contacted → List ℕ
device_words c = decimal c.device ++ (codes ": " ++ contact_words c)

-- the spaces after a device of so many columns
abbrev pub gap : ℕ → ℕ
gap taken = max (DEVICE - taken) APART
