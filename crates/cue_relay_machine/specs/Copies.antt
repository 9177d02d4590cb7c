-- A GO is said four times: at once, and three times more soon after, as long as no other order came to the same device.
use Rattle.std.specs.Prelude.{ℕ, ◌+◌, ◌*◌, ◌-◌, min, Bool, not, ◌&&◌, ◌||◌, nat_lt, nat_le}
use Rattle.std.specs.Prelude.{if◌then◌else◌, List, [], ◌∷◌, ◌++◌, length, Option, Some, None, option_map, get_or}
use Rattle.std.specs.Prelude.{slice_set}
use Rattle.cue_machine.specs.declared.address.Address as machine
use Rattle.cue_machine.specs.declared.post.Output.TheVariants as output
use Rattle.cue_machine.specs.Posting.{Given, given_as}
use Rattle.cue_relay.specs.declared.going.Going.{Going}
use Rattle.cue_relay.specs.declared.messages.Message.{Message}
use Rattle.cue_relay.specs.declared.messages.Message.TheVariants as says
use Rattle.cue_relay.specs.declared.status.Ordered.{Ordered}
use Rattle.cue_relay.specs.declared.status.Ordered.TheVariants.{Standby, Go, Cancel}
use Rattle.cue_relay_machine.specs.declared.copies.Said.{Said}
use Rattle.cue_relay_machine.specs.declared.copies.Said.TheVariants.{Once, Twice, Thrice}
use Rattle.cue_relay_machine.specs.declared.copies.TheConstants.{FIRST_COPY, SECOND_COPY, THIRD_COPY}
use Rattle.cue_relay_machine.specs.declared.copies.TheConstants.{GO_BYTES, LAST_COPY}
use Rattle.cue_relay_machine.specs.declared.copies.Waiting.{Waiting}
use Rattle.cue_relay_machine.specs.Books.{highest}
use Rattle.cue_relay_machine.specs.Places.{machine_address}

-- ---- what waits

-- the time from a GO to the copy that is to be said next
abbrev pub pause : Said → ℕ
pause Once = FIRST_COPY
pause Twice = SECOND_COPY
pause Thrice = THIRD_COPY

-- its time is over, or the clock was put back before it
abbrev pub is_late : Waiting → ℕ → Bool
is_late w now = nat_lt now w.came || nat_lt LAST_COPY (now - w.came)

-- a copy of it is said now: its pause has passed, and its time is not over
abbrev pub is_said : Waiting → ℕ → Bool
is_said w now = not (is_late w now) && nat_le (pause w.said) (now - w.came)

-- how often it was said once a copy was said, if another one is to follow
abbrev pub said_once_more : Said → Option Said
said_once_more Once = Some Twice
said_once_more Twice = Some Thrice
said_once_more Thrice = None

-- what is still to be said of it, once a copy was said
abbrev pub once_more : Waiting → Option Waiting
once_more w = option_map (λ more. record w { said = more }) (said_once_more w.said)

-- when its next copy is due, or the last moment that there is
abbrev pub due : Waiting → ℕ
due w = min (w.came + pause w.said) highest

-- ---- what went on

-- a GO that went on is to be said again
abbrev pub go_waits : ℕ → machine.Address → List ℕ → Option Waiting
go_waits now to bytes =
    if nat_le (length bytes) GO_BYTES
    then Some (record { came = now; said = Once; to = to; bytes = bytes })
    else None

-- what waits at a route once this order went on by it: after another order than a GO none is said again
abbrev pub after_order : Ordered → ℕ → machine.Address → List ℕ → Option Waiting
after_order Standby now to bytes = None
after_order Go now to bytes = go_waits now to bytes
after_order Cancel now to bytes = None

abbrev pub after_message : Message → Option Waiting → ℕ → machine.Address → List ℕ → Option Waiting
after_message (says.Order order seq) o now to bytes = after_order order now to bytes
after_message says.Reply o now to bytes = o
after_message (says.Answer a) o now to bytes = o

-- what waits at a route once this went on by it
abbrev pub after_going : Option Waiting → ℕ → Going → List ℕ → Option Waiting
after_going o now g bytes = after_message g.message o now (machine_address g.way.to) bytes

-- what waits at a route
abbrev pub wait_at : List (Option Waiting) → ℕ → Option Waiting
wait_at waiting route = get_or waiting route None

-- what waits at all routes, once this went on by one of them
abbrev pub taken_at : List (Option Waiting) → ℕ → ℕ → Going → List ℕ → List (Option Waiting)
taken_at waiting route now g bytes = slice_set waiting route (after_going (wait_at waiting route) now g bytes)

-- ---- a wake

-- the copy that is said now, by this socket
abbrev pub copy_given : ℕ → Option Waiting → ℕ → List Given
copy_given place None now = []
copy_given place (Some w) now =
    if is_said w now then given_as (output.Send place w.to) w.bytes ∷ [] else []

-- the copies that are said now, at this route and those after it, each by the stage's socket of its route
abbrev pub copies_given : ℕ → List (Option Waiting) → ℕ → List Given
copies_given route [] now = []
copies_given route (o ∷ os) now = copy_given (2 * route + 1) o now ++ copies_given (route + 1) os now

-- what waits at a route after a wake
abbrev pub after_wake : ℕ → Option Waiting → Option Waiting
after_wake now None = None
after_wake now (Some w) = if is_late w now then None else if is_said w now then once_more w else Some w

-- ---- time

-- the earlier one of a moment and of when a copy is due
abbrev pub sooner : ℕ → Option Waiting → ℕ
sooner first None = first
sooner first (Some w) = min (due w) first

-- the earliest of a moment and of when copies are due
abbrev pub earliest : ℕ → List (Option Waiting) → ℕ
earliest first [] = first
earliest first (o ∷ os) = earliest (sooner first o) os
