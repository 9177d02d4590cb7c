use Rattle.std.proofs.Common.{◌≡◌, ◌-◌}
use Rattle.cue_kept.proofs.LoopLemmas.{onto}
use Rattle.cue_kept.specs.Reading.{device_at, items_at}
use Rattle.cue_kept.proofs.reading.each_device_in.Given as goal

-- those so far, and what is read of the rest, are all
abbrev pub invariant-loop : goal.invariant-loop
invariant-loop l =
    items_at device_at l.count l.text ≡ onto l.devices.items (items_at device_at (l.count - l.counter) l.rest)
