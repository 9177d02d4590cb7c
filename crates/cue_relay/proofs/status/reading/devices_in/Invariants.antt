use Rattle.std.proofs.Common.{◌≡◌, ◌++◌, ◌-◌, length}
use Rattle.cue_relay.specs.Reading.{devices_at}
use Rattle.cue_relay.proofs.status.reading.devices_in.Given as goal

-- those so far, and what is read of the rest, are all
abbrev pub invariant-loop : goal.invariant-loop
invariant-loop l =
    devices_at (length l.text) l.text ≡ l.devices.items ++ devices_at (length l.text - l.counter) l.rest
