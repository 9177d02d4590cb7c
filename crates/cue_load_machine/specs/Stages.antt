-- Sockets, places, stages and time.
use Rattle.std.specs.Prelude.{ℕ, ◌+◌, ◌-◌, ◌^◌, min, Bool, true, false, nat_le, nat_lt, if◌then◌else◌}
use Rattle.std.specs.Prelude.{Option, Some, None}
use Rattle.cue_machine.specs.declared.post.Output.{Output}
use Rattle.cue_machine.specs.declared.post.Output.TheVariants as output
use Rattle.cue_loading.specs.declared.manner.Manner.{Manner}
use Rattle.cue_loading.specs.Steps.{goes_on}
use Rattle.cue_load_machine.specs.declared.asks.Form.{Form}
use Rattle.cue_load_machine.specs.declared.asks.Form.TheVariants as form
use Rattle.cue_load_machine.specs.declared.stage.LoadEnd.{LoadEnd}
use Rattle.cue_load_machine.specs.declared.stage.LoadEnd.TheVariants as end
use Rattle.cue_load_machine.specs.declared.stage.Stage.{Stage}
use Rattle.cue_load_machine.specs.declared.stage.Stage.TheVariants as stage
use Rattle.cue_load_machine.specs.declared.stage.Try.{Try}
use Rattle.cue_load_machine.specs.declared.stage.Waits.{Waits}
use Rattle.cue_load_machine.specs.Asks.{patience, replies}

-- the highest number that there is room for
abbrev pub highest : ℕ
highest = 2 ^ 64 - 1

-- the next of the 32 sockets
abbrev pub next_socket : ℕ → ℕ
next_socket socket = if nat_lt socket 31 then socket + 1 else 0

-- the place after this one, and after so many more
abbrev pub next_place : ℕ → ℕ → ℕ
next_place place covers = min (min (place + 1) highest + covers) highest

-- the place of the first thing that a message asks
abbrev pub first_slot : Form → ℕ → ℕ
first_slot form.Alone place = place
first_slot (form.Together count) place = min (place + 1) highest

-- the place after this one
abbrev pub next_slot : ℕ → ℕ
next_slot slot = min (slot + 1) highest

-- when the time for the next reply ends, to a message that was sent, or replied to last, at a moment
abbrev pub late_at : Form → ℕ → ℕ
late_at f since = min (since + patience f) highest

-- whether it has ended
abbrev pub is_late : Form → ℕ → ℕ → Bool
is_late f since now = nat_le (late_at f since) now

-- once it was sent, it may be sent once less
abbrev pub spent : Try → Try
spent of = record { place = of.place; left = of.left - 1; socket = of.socket }

-- all replies are waited for
abbrev pub sent : Form → Try → ℕ → Waits
sent f of now = record { of = spent of; since = now; rest = replies f; slot = first_slot f of.place }

-- by the next socket
abbrev pub again : Try → Try
again of = record { place = of.place; left = of.left; socket = next_socket of.socket }

-- one reply has come, at a moment
abbrev pub one_less : Waits → ℕ → Waits
one_less w now = record { of = w.of; since = now; rest = w.rest - 1; slot = next_slot w.slot }

-- what was lost is the copy, or a message: without the copy only a load goes on that takes nothing away
abbrev pub lost : Manner → Stage → Output → Stage
lost m s output.Replace = if goes_on m false then s else stage.Over end.NotKept
lost m s (output.Send by to) = s
lost m s output.Print = s
lost m s output.Say = s

-- the place of the message whose turn it is; if all is done, this one
abbrev pub end_place : ℕ → LoadEnd → ℕ
end_place all end.Done = all
end_place all (end.Refused place code) = place
end_place all (end.Silent place) = place
end_place all (end.Nobody place) = place
end_place all end.NotKept = 0

abbrev pub place_of : ℕ → Stage → ℕ
place_of all stage.Copies = 0
place_of all (stage.Sends of) = of.place
place_of all (stage.Waits w) = w.of.place
place_of all (stage.Over e) = end_place all e

-- how many messages were asked, of so many
abbrev pub end_asked : ℕ → LoadEnd → ℕ
end_asked all end.Done = all
end_asked all (end.Refused place code) = next_slot place
end_asked all (end.Silent place) = next_slot place
end_asked all (end.Nobody place) = next_slot place
end_asked all end.NotKept = 0

abbrev pub asked_at : ℕ → Stage → ℕ
asked_at all stage.Copies = 0
asked_at all (stage.Sends of) = if nat_lt of.left 4 then next_slot of.place else of.place
asked_at all (stage.Waits w) = next_slot w.of.place
asked_at all (stage.Over e) = end_asked all e

abbrev pub is_over : Stage → Bool
is_over stage.Copies = false
is_over (stage.Sends of) = false
is_over (stage.Waits w) = false
is_over (stage.Over e) = true

-- how it ended, if it is over
abbrev pub end_of : Stage → Option LoadEnd
end_of stage.Copies = None
end_of (stage.Sends of) = None
end_of (stage.Waits w) = None
end_of (stage.Over e) = Some e
